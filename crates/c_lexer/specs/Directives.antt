-- Directives (C99 6.10.2, 6.10.3), each on one line: `#include <H>` and `#define NAME number`. Any other is a fault at its `#`.
use Rattle.std.specs.Prelude.{ℕ, ◌+◌, Bool, false, ◌&&◌, ◌||◌, if◌then◌else◌, ◌==◌, nat_lt, nat_eq, List, [], ◌∷◌, length, take, drop, slice_index, slice_range, Option, Some, None, pos, neg_ℤ, codes}
use Rattle.std.specs.Char.{is_ascii_digit}
use Rattle.std.specs.List.{prefix_len, starts_with}
use Rattle.rr_base.specs.Texts.{Text}
use Rattle.c_lexer.specs.Bytes.{is_gap, is_in_line, begins_name, continues_name}
use Rattle.c_lexer.specs.Tables.{headers}
use Rattle.c_lexer.specs.Numbers.{literal_at}
use Rattle.c_lexer.specs.Comments.{comment_end}
use Rattle.c_lexer.specs.Defined.{Defined}
use Rattle.c_lexer.specs.Names.{is_free}
use Rattle.c_lexer.specs.declared.fault.Fault.TheVariants.{BadDirective, WideNumber}
use Rattle.c_lexer.specs.declared.piece.Literal.{Literal}
use Rattle.c_lexer.specs.declared.piece.Parts.{Parts}
use Rattle.c_lexer.specs.declared.piece.Piece.{Piece}
use Rattle.c_lexer.specs.declared.piece.Piece.TheVariants as piece

-- how many spaces and tabs the text begins with
abbrev pub gap_len : Text → ℕ
gap_len = prefix_len is_gap

-- spaces and tabs alone
abbrev pub is_gap_only : Text → Bool
is_gap_only text = gap_len text == length text

-- a comment that ends after so many bytes, and then spaces and tabs alone
abbrev pub ends_by : Option ℕ → Text → Bool
ends_by None text = false
ends_by (Some n) text = is_gap_only (drop n text)

-- one comment, or nothing, and then spaces and tabs
abbrev pub is_comment_only : Text → Bool
is_comment_only text =
    length text == 0 || starts_with nat_eq text (codes "//")
    || (starts_with nat_eq text (codes "/*") && ends_by (comment_end (drop 2 text)) (drop 2 text))

-- what may follow on a directive's line: spaces, tabs and one comment
unfoldable pub is_tail : Text → Bool
is_tail text = is_comment_only (drop (gap_len text) text)

-- how long the name of a header is that the text begins with
abbrev pub header_len : List Text → Text → Option ℕ
header_len [] text = None
header_len (h ∷ hs) text = if starts_with nat_eq text h then Some (length h) else header_len hs text

-- a header of this length, after which the line must end
abbrev pub include_by : Option ℕ → Text → Bool
include_by None text = false
include_by (Some n) text = is_tail (drop n text)

-- a line that begins with `#include`
unfoldable pub include_at : Text → Piece
include_at line =
    let header = 8 + gap_len (drop 8 line) in
    if nat_lt 8 header && include_by (header_len headers (drop header line)) (drop header line) then piece.Blank (length line)
    else piece.Fault BadDirective 0

-- where the parts of a definition stand on its line, after its `#define`: a gap, a name, a gap, a `-` or none, and a number
unfoldable pub parts_of : Text → Parts
parts_of line =
    let from = 7 + gap_len (drop 7 line) in
    let to = from + prefix_len continues_name (drop from line) in
    let sign = to + gap_len (drop to line) in
    let minus = slice_index line sign == 45 in
    record { from = from; to = to; sign = sign; minus = minus; digits = if minus then sign + 1 else sign }

-- none of the parts is missing
unfoldable pub are_there : Parts → Text → Bool
are_there parts line =
    nat_lt 7 parts.from && begins_name (slice_index line parts.from) && nat_lt parts.to parts.sign && is_ascii_digit (slice_index line parts.digits)

-- the name's value with its sign; a number from 2^63 on is a fault
abbrev pub value_by : Option ℕ → Parts → ℕ → Piece
value_by None parts len = piece.Fault WideNumber parts.digits
value_by (Some v) parts len = piece.Define parts.from parts.to (if parts.minus then neg_ℤ (pos v) else pos v) len

-- a definition with this number, after which the line must end. A value that is too great is a fault at its digits
unfoldable pub valued : Literal → Parts → Text → Piece
valued literal parts line =
    if is_tail (drop (parts.digits + literal.len) line) then value_by literal.value parts (length line)
    else piece.Fault BadDirective 0

-- a line that begins with `#define`
unfoldable pub define_at : Defined → Text → Piece
define_at defined line =
    let parts = parts_of line in
    if are_there parts line && is_free defined (slice_range line parts.from parts.to) then valued (literal_at (drop parts.digits line)) parts line
    else piece.Fault BadDirective 0

-- a text that begins with `#`, where a directive may stand
unfoldable pub directive_at : Defined → Text → Piece
directive_at defined text =
    let line = take (prefix_len is_in_line text) text in
    if starts_with nat_eq line (codes "#include") then include_at line
    else (if starts_with nat_eq line (codes "#define") then define_at defined line else piece.Fault BadDirective 0)
