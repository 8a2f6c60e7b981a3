-- A word by its number without a sign, where there is a sign before it or none. Here the steps only have names.
use Rattle.std.specs.Prelude.{ℕ, ◌-◌, ◌==◌, nat_lt, ◌||◌, if◌then◌else◌, Option, Some, None}

-- below 2^63 each number is its own word
abbrev pub low : ℕ → Option ℕ
low n = if nat_lt n 9223372036854775808 then Some n else None

-- after a sign, from 1 to 2^63
abbrev pub high : ℕ → Option ℕ
high n = if (n == 0) || nat_lt 9223372036854775808 n then None else Some (18446744073709551615 - (n - 1))
