-- What follows of the tokens of a text, in words that know nothing of how they are found.
use Rattle.std.specs.Prelude.{◌≡◌, ◌≤◌, ℕ, ◌+◌, ◌==◌, nat_eq, IsTrue, List, [], ◌∷◌, ◌++◌, length, map, take, Contains, All, count_by, Ok, Err}
use Rattle.std.specs.List.{starts_with, suffix_len}
use Rattle.rr_base.specs.Texts.{Text}
use Rattle.c_lexer.specs.Bytes.{is_in_line}
use Rattle.c_lexer.specs.Tables.{puncts, words}
use Rattle.c_lexer.specs.Faults.{fault_at}
use Rattle.c_lexer.specs.Tokens.{Found, punct_at, tokens_of}
use Rattle.c_lexer.specs.declared.fault.Fault.{Fault}
use Rattle.c_lexer.specs.declared.piece.Piece.{Piece}
use Rattle.c_lexer.specs.declared.piece.Piece.TheVariants as piece
use Rattle.c_lexer.specs.declared.piece.Cursor.{Cursor}
use Rattle.c_lexer.specs.declared.token.Kind.{Kind}
use Rattle.c_lexer.specs.declared.token.Kind.TheVariants as kind

-- ---- the longest punctuation

-- a token of at least so many bytes
abbrev pub IsTokenOf : ℕ → Piece → Type 0
IsTokenOf len (piece.Blank n) = ⊥
IsTokenOf len (piece.Token k n) = len ≤ n
IsTokenOf len (piece.Define from to value n) = ⊥
IsTokenOf len (piece.Fault f n) = ⊥

-- punctuation that stands at the front of a text is no longer than the token that is cut there
abbrev pub LongestIsCut : Type 0
LongestIsCut = (text : Text) (spelling : Text) → Contains (map (λ e. e.0) puncts) spelling → IsTrue (starts_with nat_eq text spelling) → IsTokenOf (length spelling) (punct_at text)

-- ---- words and punctuation are their tokens

-- each word and sign as it is written, with its kind
abbrev pub spellings : List (Text × Kind)
spellings = map (λ e. (e.0, kind.Word e.1)) words ++ map (λ e. (e.0, kind.Punct e.1)) puncts

-- each of these, and a space after it
abbrev pub spelled : List (Text × Kind) → Text
spelled [] = []
spelled (e ∷ es) = e.0 ++ 32 ∷ spelled es

-- tokens of these kinds are found
abbrev pub AreFound : List Kind → Found → Type 0
AreFound kinds (Ok ts) = map (λ t. t.kind) ts ≡ kinds
AreFound kinds (Err f) = ⊥

-- words and signs with spaces between are read as just themselves
abbrev pub SpelledAreFound : Type 0
SpelledAreFound = (es : List (Text × Kind)) → All (Contains spellings) es → AreFound (map (λ e. e.1) es) (tokens_of (spelled es))

-- ---- places

-- the line of the byte after so many: one more than the newlines before it
abbrev pub line_of : Text → ℕ → ℕ
line_of text at = 1 + count_by (λ b. b == 10) (take at text)

-- its column: one more than the bytes between it and the last newline before it, or the front
abbrev pub column_of : Text → ℕ → ℕ
column_of text at = 1 + suffix_len is_in_line (take at text)

-- lines and columns count from 1, the offset counts bytes from 0
pub record IsCursorOf (text : Text) (cursor : Cursor) : Type 0 where
  pub within : cursor.offset ≤ length text
  pub line : cursor.at.line ≡ line_of text cursor.offset
  pub column : cursor.at.column ≡ column_of text cursor.offset

-- tokens stand where their spans begin, and a fault at some byte of the text or after its last
abbrev pub ArePlaced : Text → Found → Type 0
ArePlaced text (Ok ts) = All (λ t. IsCursorOf text (record { offset = t.start; at = t.at })) ts
ArePlaced text (Err f) = (kind : Fault) × (cursor : Cursor) × IsCursorOf text cursor × (f ≡ fault_at kind cursor.at)

-- in every source tokens and faults stand where they say
abbrev pub PlacesAreTrue : Type 0
PlacesAreTrue = (text : Text) → ArePlaced text (tokens_of text)
