-- Numbers as they are written (C99 6.4.4.1).
use Rattle.std.specs.Prelude.{ℕ, ◌+◌, ◌*◌, ◌^◌, Bool, true, false, ◌&&◌, ◌||◌, if◌then◌else◌, ◌==◌, nat_lt, nat_eq, [], ◌∷◌, take, drop, slice_index, pos, Option, Some, None, codes}
use Rattle.std.specs.Char.{is_digit, digit_value}
use Rattle.std.specs.List.{prefix_len, starts_with}
use Rattle.rr_base.specs.Texts.{Text}
use Rattle.c_lexer.specs.Bytes.{continues_name}
use Rattle.c_lexer.specs.declared.fault.Fault.TheVariants.{BadByte, WideNumber}
use Rattle.c_lexer.specs.declared.piece.Literal.{Literal}
use Rattle.c_lexer.specs.declared.piece.Piece.{Piece}
use Rattle.c_lexer.specs.declared.piece.Piece.TheVariants as piece
use Rattle.c_lexer.specs.declared.token.Kind.TheVariants as kind

-- what digits stand for in this base, the first of them the highest, after digits that stand for v
abbrev pub digits_value : ℕ → ℕ → Text → ℕ
digits_value base v [] = v
digits_value base v (b ∷ bs) = digits_value base (v * base + digit_value b) bs

-- a number that the greatest type holds, up to 2^63 - 1
abbrev pub narrow : ℕ → Option ℕ
narrow v = if nat_lt v (2 ^ 63) then Some v else None

-- how long the suffix is that the text begins with: `ll`, `LL`, `l`, `L`, or none
abbrev pub suffix_len : Text → ℕ
suffix_len text =
    if starts_with nat_eq text (codes "ll") || starts_with nat_eq text (codes "LL") then 2
    else (if starts_with nat_eq text (codes "l") || starts_with nat_eq text (codes "L") then 1 else 0)

-- the number of which the digits, in this base, stand after so many bytes
unfoldable pub based : ℕ → ℕ → Text → Literal
based base skip text =
    let digits = prefix_len (λ b. is_digit b base) (drop skip text) in
    let end = skip + digits in
    record { value = narrow (digits_value base 0 (take digits (drop skip text))); len = end + suffix_len (drop end text) }

-- `0x` or `0X` and a digit
abbrev pub begins_hexadecimal : Text → Bool
begins_hexadecimal text =
    (starts_with nat_eq text (codes "0x") || starts_with nat_eq text (codes "0X")) && is_digit (slice_index text 2) 16

-- the number that the text begins with, where it begins with a digit
unfoldable pub literal_at : Text → Literal
literal_at text =
    if begins_hexadecimal text then based 16 2 text
    else (if slice_index text 0 == 48 then based 8 0 text else based 10 0 text)

-- a number of this value and length, right after which a letter, digit or `_` stands or doesn't: a value that is too great
-- is the first fault, and then that byte
abbrev pub number_by : Option ℕ → ℕ → Bool → Piece
number_by None len more = piece.Fault WideNumber 0
number_by (Some v) len true = piece.Fault BadByte len
number_by (Some v) len false = piece.Token (kind.Number (pos v)) len

-- the token of a number, at a text that begins with a digit
unfoldable pub number_at : Text → Piece
number_at text = let literal = literal_at text in number_by literal.value literal.len (continues_name (slice_index text literal.len))
