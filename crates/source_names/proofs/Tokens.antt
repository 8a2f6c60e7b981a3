-- Names among the tokens of a text are letters, digits and `_`, so they are texts.
use Rattle.std.proofs.Common.{◌≡◌, ◌<◌, ℕ, zero, suc, ◌+◌, ◌-◌, Bool, true, false, ◌&&◌, if◌then◌else◌, cond, List, [], ◌∷◌, ◌++◌, length, take, slice_range, Option, Some, None, Ok, Err, refl, subst, ℤ, arith}
use Rattle.std.specs.Prelude.{◌==◌, nat_lt, nat_eq, drop, slice_index, codes}
use Rattle.std.specs.List.{prefix_len, starts_with}
use Rattle.std.specs.Char.{is_ascii_digit}
use Rattle.std.specs.Str.{IsUtf8, IsAscii}
use Rattle.std.proofs.lemmas.Str.{IsUtf8-from_ascii}
use Rattle.std.proofs.lemmas.Str.Ascii.{IsAscii-nil, IsAscii-cons}
use Rattle.std.proofs.lemmas.Bool.Decides.{nat_tests}
use Rattle.rr_base.specs.Texts.{Text, entry_of}
use Rattle.c_lexer.specs.Bytes.{is_blank, is_in_line, begins_name, continues_name}
use Rattle.c_lexer.specs.Comments.{comment_by, comment_at}
use Rattle.c_lexer.specs.Defined.{Defined}
use Rattle.c_lexer.specs.Directives.{include_at, parts_of, are_there, value_by, valued, define_at, directive_at}
use Rattle.c_lexer.specs.Names.{is_free, is_blank_word, is_refused, word_of, kind_of, name_at, name_by, word_by}
use Rattle.c_lexer.specs.Numbers.{literal_at, number_by, number_at}
use Rattle.c_lexer.specs.Quotes.{letter_by, letter_at, text_by, text_at}
use Rattle.c_lexer.specs.Tables.{puncts}
use Rattle.c_lexer.specs.Tokens.{Found, Reading, start, punct_in, punct_at, plain_at, piece_at, tokens_of, tokens_from, with_token, token_at, met, passed}
use Rattle.c_lexer.specs.declared.fault.Fault.TheVariants.{BadDirective, OpenText}
use Rattle.c_lexer.specs.declared.piece.Body.{Body}
use Rattle.c_lexer.specs.declared.piece.Body.TheVariants as body
use Rattle.c_lexer.specs.declared.piece.Literal.{Literal}
use Rattle.c_lexer.specs.declared.piece.Parts.{Parts}
use Rattle.c_lexer.specs.declared.piece.Piece.{Piece}
use Rattle.c_lexer.specs.declared.piece.Piece.TheVariants as piece
use Rattle.c_lexer.specs.declared.piece.Unit.{Unit as Part}
use Rattle.c_lexer.specs.declared.piece.Unit.TheVariants as part
use Rattle.c_lexer.specs.declared.token.Kind.{Kind}
use Rattle.c_lexer.specs.declared.token.Kind.TheVariants as kind
use Rattle.c_lexer.specs.declared.token.Punct.{Punct}
use Rattle.c_lexer.specs.declared.token.Word.{Word}
use Rattle.source_names.specs.Spelled.{IsSpelled, AreSpelled}

-- ---- names

continues_ascii : (b : ℕ) → continues_name b ≡ true → b < 128
continues_ascii b h = grind (arith, nat_tests)

front_ascii : (bs : Text) → IsAscii (take (prefix_len continues_name bs) bs)
front_ascii [] = IsAscii-nil
front_ascii (b ∷ bs) = by (continues_name b) refl (front_ascii bs)
  where
    by : (t : Bool) → continues_name b ≡ t → IsAscii (take (prefix_len continues_name bs) bs) → IsAscii (take (cond t (1 + prefix_len continues_name bs) 0) (b ∷ bs))
    by true e h =
        let more : suc (prefix_len continues_name bs) ≡ 1 + prefix_len continues_name bs = omega arith in
        subst (λ n. IsAscii (take n (b ∷ bs))) more (IsAscii-cons b (take (prefix_len continues_name bs) bs) (continues_ascii b e) h)
    by false e h = IsAscii-nil

by_value : (v : Option ℤ) (name : Text) → IsUtf8 name → IsSpelled (name_by v name)
by_value None name h = h
by_value (Some v) name h = tt

refused_or : (t : Bool) (v : Option ℤ) (name : Text) → IsUtf8 name → IsSpelled (if t then kind.Refused name else name_by v name)
refused_or true v name h = tt
refused_or false v name h = by_value v name h

by_word : (w : Option Word) (defined : Defined) (name : Text) → IsUtf8 name → IsSpelled (word_by w defined name)
by_word (Some w) defined name h = tt
by_word None defined name h = refused_or (is_refused name) (entry_of defined name) name h

-- ---- pieces

-- a token that is a name is a text
abbrev IsFine : Piece → Type 0
IsFine (piece.Blank n) = Unit {0}
IsFine (piece.Token k n) = IsSpelled k
IsFine (piece.Define from to value n) = Unit {0}
IsFine (piece.Fault f n) = Unit {0}

either : (t : Bool) (p q : Piece) → IsFine p → IsFine q → IsFine (if t then p else q)
either true p q h g = h
either false p q h g = g

name_fine : (defined : Defined) (text : Text) → IsFine (name_at defined text)
unfolding name_at kind_of
name_fine defined text =
    let name = take (prefix_len continues_name text) text in
    either (is_blank_word name) (piece.Blank (prefix_len continues_name text)) (piece.Token (kind_of defined name) (prefix_len continues_name text)) tt (by_word (word_of name) defined name (IsUtf8-from_ascii name (front_ascii text)))

number_fine : (v : Option ℕ) (len : ℕ) (more : Bool) → IsFine (number_by v len more)
number_fine None len more = tt
number_fine (Some v) len true = tt
number_fine (Some v) len false = tt

number_at_fine : (text : Text) → IsFine (number_at text)
unfolding number_at
number_at_fine text = number_fine _ _ _

letter_fine : (u : Part) (text : Text) → IsFine (letter_by u text)
letter_fine (part.Byte v n) text = either (slice_index text (1 + n) == 39) (piece.Token (kind.Letter v) (n + 2)) (piece.Fault OpenText 0) tt tt
letter_fine part.Close text = tt
letter_fine part.BadEscape text = tt
letter_fine part.Open text = tt

letter_at_fine : (text : Text) → IsFine (letter_at text)
unfolding letter_at
letter_at_fine text = letter_fine _ text

text_fine : (b : Body) → IsFine (text_by b)
text_fine (body.Closed bytes len) = tt
text_fine (body.BadEscape at) = tt
text_fine body.Open = tt

text_at_fine : (text : Text) → IsFine (text_at text)
unfolding text_at
text_at_fine text = text_fine _

punct_fine : (es : List (Text × Punct)) (text : Text) → IsFine (punct_in es text)
punct_fine [] text = tt
punct_fine (e ∷ es) text = either (starts_with nat_eq text e.0) (piece.Token (kind.Punct e.1) (length e.0)) (punct_in es text) tt (punct_fine es text)

punct_at_fine : (text : Text) → IsFine (punct_at text)
unfolding punct_at
punct_at_fine text = punct_fine puncts text

comment_fine : (end : Option ℕ) → IsFine (comment_by end)
comment_fine None = tt
comment_fine (Some n) = tt

comment_at_fine : (text : Text) → IsFine (comment_at text)
unfolding comment_at
comment_at_fine text = comment_fine _

include_fine : (line : Text) → IsFine (include_at line)
unfolding include_at
include_fine line = either _ (piece.Blank (length line)) (piece.Fault BadDirective 0) tt tt

value_fine : (v : Option ℕ) (parts : Parts) (len : ℕ) → IsFine (value_by v parts len)
value_fine None parts len = tt
value_fine (Some v) parts len = tt

valued_fine : (literal : Literal) (parts : Parts) (line : Text) → IsFine (valued literal parts line)
unfolding valued
valued_fine literal parts line = either _ (value_by literal.value parts (length line)) (piece.Fault BadDirective 0) (value_fine literal.value parts (length line)) tt

define_fine : (defined : Defined) (line : Text) → IsFine (define_at defined line)
unfolding define_at
define_fine defined line =
    let parts = parts_of line in
    let literal = literal_at (drop parts.digits line) in
    either (are_there parts line && is_free defined (slice_range line parts.from parts.to)) (valued literal parts line) (piece.Fault BadDirective 0) (valued_fine literal parts line) tt

directive_fine : (defined : Defined) (text : Text) → IsFine (directive_at defined text)
unfolding directive_at
directive_fine defined text =
    let line = take (prefix_len is_in_line text) text in
    let defines = if starts_with nat_eq line (codes "#define") then define_at defined line else piece.Fault BadDirective 0 in
    either (starts_with nat_eq line (codes "#include")) (include_at line) defines (include_fine line)
    (either (starts_with nat_eq line (codes "#define")) (define_at defined line) (piece.Fault BadDirective 0) (define_fine defined line) tt)

plain_fine : (defined : Defined) (text : Text) → IsFine (plain_at defined text)
unfolding plain_at
plain_fine defined text =
    let b = slice_index text 0 in
    let quoted = if b == 34 then text_at text else punct_at text in
    let lettered = if b == 39 then letter_at text else quoted in
    let numbered = if is_ascii_digit b then number_at text else lettered in
    let named = if begins_name b then name_at defined text else numbered in
    let open_comment = if starts_with nat_eq text (codes "/*") then comment_at text else named in
    let comment = if starts_with nat_eq text (codes "//") then piece.Blank (prefix_len is_in_line text) else open_comment in
    either (is_blank b) (piece.Blank 1) comment tt
    (either (starts_with nat_eq text (codes "//")) (piece.Blank (prefix_len is_in_line text)) open_comment tt
    (either (starts_with nat_eq text (codes "/*")) (comment_at text) named (comment_at_fine text)
    (either (begins_name b) (name_at defined text) numbered (name_fine defined text)
    (either (is_ascii_digit b) (number_at text) lettered (number_at_fine text)
    (either (b == 39) (letter_at text) quoted (letter_at_fine text)
    (either (b == 34) (text_at text) (punct_at text) (text_at_fine text) (punct_at_fine text)))))))

piece_fine : (first : Bool) (defined : Defined) (text : Text) → IsFine (piece_at first defined text)
unfolding piece_at
piece_fine first defined text = either (slice_index text 0 == 35 && first) (directive_at defined text) (plain_at defined text) (directive_fine defined text) (plain_fine defined text)

-- ---- tokens

with_spelled : (k : Kind) (n : ℕ) (r : Reading) (found : Found) → IsSpelled k → AreSpelled found → AreSpelled (with_token (token_at k n r.cursor) found)
with_spelled k n r (Ok ts) h g = (h, g)
with_spelled k n r (Err f) h g = tt

met_spelled : (p : Piece) (bs : Text) (r : Reading) (more : ℕ → Reading → Found) → IsFine p → ((n : ℕ) (s : Reading) → AreSpelled (more n s)) → AreSpelled (met p bs r more)
met_spelled (piece.Blank n) bs r more h m = m n r
met_spelled (piece.Token k n) bs r more h m = with_spelled k n r _ h (m n (record r { token_line = r.cursor.at.line }))
met_spelled (piece.Define from to value n) bs r more h m = m n (record r { defined = r.defined ++ (slice_range bs from to, value) ∷ [] })
met_spelled (piece.Fault f n) bs r more h m = tt

spelled_from : (left : ℕ) (r : Reading) (bs : Text) → AreSpelled (tokens_from left r bs)
spelled_from left r [] = tt
spelled_from (suc left) r (b ∷ bs) = spelled_from left (passed b r) bs
spelled_from zero r (b ∷ bs) = met_spelled (piece_at (nat_lt r.token_line r.cursor.at.line) r.defined (b ∷ bs)) (b ∷ bs) r _ (piece_fine (nat_lt r.token_line r.cursor.at.line) r.defined (b ∷ bs)) (λ n s. spelled_from (n - 1) (passed b s) bs)

pub tokens_are_spelled : (text : Text) → AreSpelled (tokens_of text)
unfolding tokens_of
tokens_are_spelled text = spelled_from 0 start text
