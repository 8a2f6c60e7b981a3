-- The tokens of a source, or its first fault (C99 6.4). From its front on a source is cut into pieces, each as long as it goes:
-- a blank, a token, a directive, or a fault, with which reading ends. What comes after a piece is read in the same way.
use Rattle.std.specs.Prelude.{◌≡◌, ℕ, zero, suc, ◌+◌, ◌-◌, Bool, ◌&&◌, if◌then◌else◌, ◌==◌, nat_lt, nat_eq, List, [], ◌∷◌, ◌++◌, length, take, slice_index, slice_range, Result, Ok, Err, codes}
use Rattle.std.specs.Char.{is_ascii_digit}
use Rattle.std.specs.List.{prefix_len, starts_with}
use Rattle.rr_base.specs.Positions.{position_at}
use Rattle.rr_base.specs.Texts.{Text}
use Rattle.c_lexer.specs.Bytes.{is_blank, begins_name, is_in_line}
use Rattle.c_lexer.specs.Tables.{puncts}
use Rattle.c_lexer.specs.Numbers.{number_at}
use Rattle.c_lexer.specs.Quotes.{letter_at, text_at}
use Rattle.c_lexer.specs.Comments.{comment_at}
use Rattle.c_lexer.specs.Defined.{Defined}
use Rattle.c_lexer.specs.Faults.{fault_at}
use Rattle.c_lexer.specs.Names.{name_at}
use Rattle.c_lexer.specs.Directives.{directive_at}
use Rattle.c_lexer.specs.declared.fault.Fault.TheVariants as fault
use Rattle.c_lexer.specs.declared.fault.LexFault.{LexFault}
use Rattle.c_lexer.specs.declared.fault.LexFault.TheVariants as lex
use Rattle.c_lexer.specs.declared.piece.Piece.{Piece}
use Rattle.c_lexer.specs.declared.piece.Piece.TheVariants as piece
use Rattle.c_lexer.specs.declared.piece.Cursor.{Cursor}
use Rattle.c_lexer.specs.declared.token.Kind.{Kind}
use Rattle.c_lexer.specs.declared.token.Kind.TheVariants as kind
use Rattle.c_lexer.specs.declared.token.Punct.{Punct}
use Rattle.c_lexer.specs.declared.token.Token.{Token}

-- ---- what a text begins with

-- the first of these that the text begins with; as the longest stand first, that is the longest (C99 6.4.6)
abbrev pub punct_in : List (Text × Punct) → Text → Piece
punct_in [] text = piece.Fault fault.BadByte 0
punct_in (e ∷ es) text = if starts_with nat_eq text e.0 then piece.Token (kind.Punct e.1) (length e.0) else punct_in es text

-- the longest sign at the front; without one the byte is a fault
unfoldable pub punct_at : Text → Piece
punct_at = punct_in puncts

-- the piece that a text which isn't empty begins with, where these names have values, but for directives
unfoldable pub plain_at : Defined → Text → Piece
plain_at defined text =
    let b = slice_index text 0 in
    if is_blank b then piece.Blank 1
    else (if starts_with nat_eq text (codes "//") then piece.Blank (prefix_len is_in_line text)
    else (if starts_with nat_eq text (codes "/*") then comment_at text
    else (if begins_name b then name_at defined text
    else (if is_ascii_digit b then number_at text
    else (if b == 39 then letter_at text
    else (if b == 34 then text_at text
    else punct_at text))))))

-- the same with directives. A `#` begins one where it is first on its line: where no token stands before it there
unfoldable pub piece_at : Bool → Defined → Text → Piece
piece_at first defined text = if slice_index text 0 == 35 && first then directive_at defined text else plain_at defined text

-- ---- where it stands

-- the cursor after this byte
abbrev pub next : ℕ → Cursor → Cursor
next b cursor =
    if b == 10 then record { offset = cursor.offset + 1; at = position_at (cursor.at.line + 1) 1 }
    else record { offset = cursor.offset + 1; at = position_at cursor.at.line (cursor.at.column + 1) }

-- the cursor after these bytes
abbrev pub after : Text → Cursor → Cursor
after [] cursor = cursor
after (b ∷ bs) cursor = after bs (next b cursor)

-- ---- the tokens of a text

-- the tokens, or the first fault
abbrev pub Found : Type 0
Found = Result (List Token) LexFault

-- a token of so many bytes
abbrev pub token_at : Kind → ℕ → Cursor → Token
token_at kind len cursor = record { kind = kind; at = cursor.at; start = cursor.offset; end = cursor.offset + len }

-- a token before the others; a fault after it stays the answer
abbrev pub with_token : Token → Found → Found
with_token t (Ok ts) = Ok (t ∷ ts)
with_token t (Err f) = Err f

-- where reading stands: the cursor, the line of the last token (0 if there is none), and the names that have values
pub record Reading : Type 0 where
  pub cursor : Cursor
  pub token_line : ℕ
  pub defined : Defined

-- one byte on
abbrev pub passed : ℕ → Reading → Reading
passed b r = record r { cursor = next b r.cursor }

-- what is found at a text that begins with this piece, where `more` is what is found after so many bytes
abbrev pub met : Piece → Text → Reading → (ℕ → Reading → Found) → Found
met (piece.Blank n) text r more = more n r
met (piece.Token k n) text r more =
    with_token (token_at k n r.cursor) (more n (record r { token_line = r.cursor.at.line }))
met (piece.Define from to value n) text r more = more n (record r { defined = r.defined ++ (slice_range text from to, value) ∷ [] })
met (piece.Fault f n) text r more = Err (fault_at f (after (take n text) r.cursor).at)

-- what is found from here on, where the piece before reaches over so many bytes more
abbrev pub tokens_from : ℕ → Reading → Text → Found
tokens_from left r [] = Ok []
tokens_from (suc left) r (b ∷ bs) = tokens_from left (passed b r) bs
tokens_from zero r (b ∷ bs) =
    met (piece_at (nat_lt r.token_line r.cursor.at.line) r.defined (b ∷ bs)) (b ∷ bs) r (λ n r'. tokens_from (n - 1) (passed b r') bs)

-- before the first byte
abbrev pub start : Reading
start = record { cursor = record { offset = 0; at = position_at 1 1 }; token_line = 0; defined = [] }

-- the tokens of a whole source, or its first fault
unfoldable pub tokens_of : Text → Found
tokens_of text = tokens_from 0 start text

-- the answer is the fault that is found, or `OutOfMemory`
abbrev pub IsFaultOf : LexFault → Found → Type 0
IsFaultOf lex.OutOfMemory found = Unit {0}
IsFaultOf (lex.BadByte at) found = found ≡ Err (lex.BadByte at)
IsFaultOf (lex.OpenComment at) found = found ≡ Err (lex.OpenComment at)
IsFaultOf (lex.OpenText at) found = found ≡ Err (lex.OpenText at)
IsFaultOf (lex.BadEscape at) found = found ≡ Err (lex.BadEscape at)
IsFaultOf (lex.WideNumber at) found = found ≡ Err (lex.WideNumber at)
IsFaultOf (lex.BadDirective at) found = found ≡ Err (lex.BadDirective at)
