-- Letters and texts (C99 6.4.4.4, 6.4.5). Past its end a source reads as bytes 0, which may not stand between quotes.
use Rattle.std.specs.Prelude.{ℕ, zero, suc, ◌+◌, ◌-◌, not, ◌&&◌, ◌||◌, if◌then◌else◌, ◌==◌, [], ◌∷◌, drop, slice_index, Option, Some, None}
use Rattle.std.specs.Char.{is_digit}
use Rattle.rr_base.specs.Texts.{Text}
use Rattle.c_lexer.specs.Bytes.{is_quotable}
use Rattle.c_lexer.specs.declared.fault.Fault.TheVariants as fault
use Rattle.c_lexer.specs.declared.piece.Unit.{Unit as Part}
use Rattle.c_lexer.specs.declared.piece.Unit.TheVariants as part
use Rattle.c_lexer.specs.declared.piece.Body.{Body}
use Rattle.c_lexer.specs.declared.piece.Body.TheVariants as body
use Rattle.c_lexer.specs.declared.piece.Piece.{Piece}
use Rattle.c_lexer.specs.declared.piece.Piece.TheVariants as piece
use Rattle.c_lexer.specs.declared.token.Kind.TheVariants as kind

-- the byte that `\` and this byte mean: `\n`, `\t`, `\r`, `\0`, and `\\`, `\'`, `\"`
abbrev pub escaped : ℕ → Option ℕ
escaped b =
    if b == 110 then Some 10
    else (if b == 116 then Some 9
    else (if b == 114 then Some 13
    else (if b == 48 then Some 0
    else (if b == 92 || b == 39 || b == 34 then Some b else None))))

-- an escape is two bytes of the source that mean one
abbrev pub escape_by : Option ℕ → Part
escape_by None = part.BadEscape
escape_by (Some v) = part.Byte v 2

-- `\` and this byte, with the next one after it: `\0` may not stand before an octal digit
abbrev pub escape : ℕ → ℕ → Part
escape b next =
    if not (is_quotable b) then part.Open
    else (if b == 48 && is_digit next 8 then part.BadEscape else escape_by (escaped b))

-- what the text begins with, inside of quotes of this kind
unfoldable pub unit_at : ℕ → Text → Part
unit_at quote text =
    let b = slice_index text 0 in
    if b == quote then part.Close
    else (if b == 92 then escape (slice_index text 1) (slice_index text 2)
    else (if is_quotable b then part.Byte b 1 else part.Open))

-- the token of a letter: this unit after its `'`, and then the closing one
abbrev pub letter_by : Part → Text → Piece
letter_by (part.Byte v n) text = if slice_index text (1 + n) == 39 then piece.Token (kind.Letter v) (n + 2) else piece.Fault fault.OpenText 0
letter_by part.Close text = piece.Fault fault.OpenText 0
letter_by part.BadEscape text = piece.Fault fault.BadEscape 1
letter_by part.Open text = piece.Fault fault.OpenText 0

-- a text that begins with `'`
unfoldable pub letter_at : Text → Piece
letter_at text = letter_by (unit_at 39 (drop 1 text)) text

-- one byte more at the front; a fault after it stays
abbrev pub with_byte : ℕ → Body → Body
with_byte v (body.Closed bytes len) = body.Closed (v ∷ bytes) len
with_byte v (body.BadEscape at) = body.BadEscape at
with_byte v body.Open = body.Open

-- by the unit here, with `at` bytes before it and `more` after it
abbrev pub body_by : Part → ℕ → (ℕ → Body) → Body
body_by (part.Byte v n) at more = with_byte v (more n)
body_by part.Close at more = body.Closed [] at
body_by part.BadEscape at more = body.BadEscape at
body_by part.Open at more = body.Open

-- the units up to the closing `"`, the first that is none from the left being the fault. The unit before reaches over `left` bytes
-- more, and `at` bytes stand before these
abbrev pub body_from : ℕ → ℕ → Text → Body
body_from left at [] = body.Open
body_from (suc left) at (b ∷ bs) = body_from left (at + 1) bs
body_from zero at (b ∷ bs) = body_by (unit_at 34 (b ∷ bs)) at (λ n. body_from (n - 1) (at + 1) bs)

-- the token of a text by what stands after its `"`
abbrev pub text_by : Body → Piece
text_by (body.Closed bytes len) = piece.Token (kind.Text bytes) (len + 2)
text_by (body.BadEscape at) = piece.Fault fault.BadEscape (at + 1)
text_by body.Open = piece.Fault fault.OpenText 0

-- a text that begins with `"`
unfoldable pub text_at : Text → Piece
text_at text = text_by (body_from 0 0 (drop 1 text))
