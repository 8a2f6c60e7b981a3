-- Names of the language: a letter or `_`, and then letters, digits and `_`. The language's own words are names too.
use Rattle.std.specs.Prelude.{ℕ, Bool, ◌||◌, ◌==◌, List, [], ◌∷◌, IsTrue}
use Rattle.std.specs.List.{AllByRecursion}
use Rattle.std.specs.Char.{is_ascii_alphabetic, is_ascii_digit}

-- a nondigit of C99 6.4.2.1; 95 is the underscore
abbrev pub begins_name : ℕ → Bool
begins_name b = is_ascii_alphabetic b || b == 95

-- a nondigit or a digit of C99 6.4.2.1
abbrev pub continues_name : ℕ → Bool
continues_name b = begins_name b || is_ascii_digit b

-- an identifier in bytes, which is never empty
abbrev pub IsName : List ℕ → Type 0
IsName [] = ⊥
IsName (b ∷ bs) = IsTrue (begins_name b) × AllByRecursion (λ c. IsTrue (continues_name c)) bs
