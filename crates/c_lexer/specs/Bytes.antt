-- The bytes of a source, and what each may be part of (C99 5.2.1). A source is a list of bytes, each a number:
-- 9 tab, 10 newline, 12 form feed, 13 carriage return, 32 space, 34 `"`, 35 `#`, 39 `'`, 42 `*`, 45 `-`, 47 `/`, 48 `0`, 92 `\`, 95 `_`.
use Rattle.std.specs.Prelude.{ℕ, Bool, not, ◌||◌, ◌==◌, nat_le}
use Rattle.std.specs.Char.{is_ascii_alphabetic, is_ascii_alphanumeric}

-- space, tab, newline, carriage return, form feed
abbrev pub is_blank : ℕ → Bool
is_blank b = b == 32 || b == 9 || b == 10 || b == 13 || b == 12

-- space, tab
abbrev pub is_gap : ℕ → Bool
is_gap b = b == 32 || b == 9

-- a letter or `_`
abbrev pub begins_name : ℕ → Bool
begins_name b = is_ascii_alphabetic b || b == 95

-- a letter, a digit or `_`
abbrev pub continues_name : ℕ → Bool
continues_name b = is_ascii_alphanumeric b || b == 95

-- not the newline
abbrev pub is_in_line : ℕ → Bool
is_in_line b = not (b == 10)

-- tab, or not below the space: what may stand between quotes
abbrev pub is_quotable : ℕ → Bool
is_quotable b = b == 9 || nat_le 32 b
