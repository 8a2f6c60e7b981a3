-- What a `#define` gives a value.
use Rattle.std.proofs.Common.{◌≡◌, ℕ, ◌+◌, ◌-◌, ◌≤◌, ◌&&◌, Bool, true, false, not, is_some, length, take, drop, slice_range, Option, Some, None, refl, ap, sym, ◌∙◌, arith, if◌then◌else◌, length-take}
use Rattle.std.proofs.lemmas.List.{drop-take, take-take}
use Rattle.rr_base.specs.Texts.{Text, entry_of}
use Rattle.c_lexer.specs.Defined.{Defined}
use Rattle.c_lexer.specs.Directives.{valued, value_by, is_tail}
use Rattle.c_lexer.specs.Names.{is_free}
use Rattle.c_lexer.specs.declared.fault.Fault.TheVariants.{BadDirective}
use Rattle.c_lexer.specs.Pieces.{IsWithin, GivesNew}
use Rattle.c_lexer.specs.declared.piece.Literal.{Literal}
use Rattle.c_lexer.specs.declared.piece.Parts.{Parts}
use Rattle.c_lexer.specs.declared.piece.Piece.{Piece}
use Rattle.c_lexer.specs.declared.piece.Piece.TheVariants as piece

last_of : (a b : Bool) → (a && b) ≡ true → b ≡ true
last_of true b h = h
last_of false b h = cc

none_of : {A : Type 0} (o : Option A) → not (is_some o) ≡ true → o ≡ None
none_of None h = refl
none_of (Some x) h = cc

-- a name that may be given a value has none
pub free-new : (defined : Defined) (name : Text) → is_free defined name ≡ true → entry_of defined name ≡ None
free-new defined name h = none_of (entry_of defined name) (last_of _ (not (is_some (entry_of defined name))) h)

value_by-new : (o : Option ℕ) (parts : Parts) (len : ℕ) (defined : Defined) (text : Text) → entry_of defined (slice_range text parts.from parts.to) ≡ None → GivesNew (value_by o parts len) defined text
value_by-new None parts len defined text h = tt
value_by-new (Some v) parts len defined text h = h

pub valued-new : (literal : Literal) (parts : Parts) (line : Text) (defined : Defined) → entry_of defined (slice_range line parts.from parts.to) ≡ None → GivesNew (valued literal parts line) defined line
unfolding valued
valued-new literal parts line defined h = by (is_tail (drop (parts.digits + literal.len) line))
  where
    by : (b : Bool) → GivesNew (if◌then◌else◌ b (value_by literal.value parts (length line)) (piece.Fault BadDirective 0)) defined line
    by true = value_by-new literal.value parts (length line) defined line h
    by false = tt

range-take : (n from to : ℕ) (text : Text) → from ≤ to → to ≤ n → slice_range (take n text) from to ≡ slice_range text from to
range-take n from to text le h =
    let split : n ≡ from + (n - from) = omega arith in
    ap (λ k. take (to - from) (drop from (take k text))) split
    ∙ ap (take (to - from)) (drop-take from (n - from) text)
    ∙ take-take (to - from) (n - from) (drop from text) (omega arith)

-- a line's definition is the text's
pub line-new : (n : ℕ) (p : Piece) (defined : Defined) (text : Text) → IsWithin p (length (take n text)) → GivesNew p defined (take n text) → GivesNew p defined text
line-new n (piece.Blank m) defined text w h = tt
line-new n (piece.Token k m) defined text w h = tt
line-new n (piece.Define from to value m) defined text w h =
    let short : to ≤ n = omega (arith, length-take n text, w.1, w.3) in
    ap (entry_of defined) (sym (range-take n from to text w.2 short)) ∙ h
line-new n (piece.Fault f m) defined text w h = tt
