-- How far pieces and their parts reach, and what else their calls ask and give.
use Rattle.std.specs.Prelude.{ℕ, ◌≤◌, ◌<◌, ◌+◌, ◌^◌, ◌≡◌, Bool, true, ◌&&◌, nat_lt, List, [], ◌∷◌, length, slice_range, Option, Some, None, FitsSigned}
use Rattle.std.specs.Int.{w64}
use Rattle.rr_base.specs.Texts.{Text, entry_of}
use Rattle.c_lexer.specs.Defined.{Defined}
use Rattle.c_lexer.specs.declared.piece.Literal.{Literal}
use Rattle.c_lexer.specs.declared.piece.Parts.{Parts}
use Rattle.c_lexer.specs.declared.piece.Piece.{Piece}
use Rattle.c_lexer.specs.declared.piece.Piece.TheVariants as piece
use Rattle.c_lexer.specs.declared.piece.Unit.{Unit as Part}
use Rattle.c_lexer.specs.declared.piece.Unit.TheVariants as part
use Rattle.c_lexer.specs.declared.piece.Body.{Body}
use Rattle.c_lexer.specs.declared.piece.Body.TheVariants as body
use Rattle.c_lexer.specs.declared.token.Punct.{Punct}

-- no spelling is empty
abbrev pub have_bytes : List (Text × Punct) → Bool
have_bytes [] = true
have_bytes (e ∷ es) = nat_lt 0 (length e.0) && have_bytes es

-- a length, if any, of at most so many bytes
abbrev pub IsUpTo : Option ℕ → ℕ → Type 0
IsUpTo None len = Unit {0}
IsUpTo (Some n) len = n ≤ len

-- a value, if any, that a `long` holds
abbrev pub IsNarrow : Option ℕ → Type 0
IsNarrow None = Unit {0}
IsNarrow (Some v) = v < 2 ^ 63

-- a number of at most so many bytes, whose value the greatest type holds
abbrev pub IsShort : Literal → ℕ → Type 0
IsShort literal len = (literal.len ≤ len) × IsNarrow literal.value

-- a unit lies within so many bytes
abbrev pub IsPartWithin : Part → ℕ → Type 0
IsPartWithin (part.Byte v n) len = (1 ≤ n) × (n ≤ len)
IsPartWithin part.Close len = 1 ≤ len
IsPartWithin part.BadEscape len = Unit {0}
IsPartWithin part.Open len = Unit {0}

-- an escape has a byte after its `\`
abbrev pub IsEscapeOf : ℕ → Part → Type 0
IsEscapeOf b (part.Byte v n) = (0 < b) × (n ≡ 2)
IsEscapeOf b part.Close = ⊥
IsEscapeOf b part.BadEscape = Unit {0}
IsEscapeOf b part.Open = Unit {0}

-- what stands after an opening quote lies within so many bytes, with the closing one
abbrev pub IsBodyWithin : Body → ℕ → Type 0
IsBodyWithin (body.Closed bytes n) len = n + 1 ≤ len
IsBodyWithin (body.BadEscape at) len = at ≤ len
IsBodyWithin body.Open len = Unit {0}

-- the parts of a definition lie one after another, within so many bytes
abbrev pub ArePartsWithin : Parts → ℕ → Type 0
ArePartsWithin parts len = (1 ≤ parts.from) × (parts.from ≤ parts.to) × (parts.to ≤ parts.digits) × (parts.digits ≤ len)

-- a piece that is no `#define` lies within so many bytes, and isn't empty
abbrev pub IsPlainWithin : Piece → ℕ → Type 0
IsPlainWithin (piece.Blank n) len = (1 ≤ n) × (n ≤ len)
IsPlainWithin (piece.Token k n) len = (1 ≤ n) × (n ≤ len)
IsPlainWithin (piece.Define from to value n) len = ⊥
IsPlainWithin (piece.Fault f n) len = n ≤ len

-- a piece lies within so many bytes, and isn't empty
abbrev pub IsWithin : Piece → ℕ → Type 0
IsWithin (piece.Blank n) len = (1 ≤ n) × (n ≤ len)
IsWithin (piece.Token k n) len = (1 ≤ n) × (n ≤ len)
IsWithin (piece.Define from to value n) len = (1 ≤ n) × (n ≤ len) × (from ≤ to) × (to ≤ n) × FitsSigned w64 value
IsWithin (piece.Fault f n) len = n ≤ len

-- what a `#define` at the front of this text gives a value is a name that has none
abbrev pub GivesNew : Piece → Defined → Text → Type 0
GivesNew (piece.Blank n) defined text = Unit {0}
GivesNew (piece.Token k n) defined text = Unit {0}
GivesNew (piece.Define from to value n) defined text = entry_of defined (slice_range text from to) ≡ None
GivesNew (piece.Fault f n) defined text = Unit {0}
