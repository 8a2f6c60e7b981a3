-- How the words after a command are read: as positional words, and as options with their values.
use Rattle.std.specs.Prelude.{◌≡◌, refl, ℕ, Bool, true, false, not, ◌==◌, ◌&&◌, nat_eq, nat_le, if◌then◌else◌, List, [], ◌∷◌, drop, Option, Some, None, is_none, codes, decimal}
use Rattle.std.specs.Fmt.{digits}
use Rattle.std.specs.List.{starts_with, list_any, before_first, after_first}
use Rattle.std.specs.Str.{bytes_eq}
use Rattle.std.specs.Str.Parse.{digits_value}

-- a positional word, an option with its value, or what is neither
pub data Argument : Type 0 where
  Positional : (word : List ℕ) → Argument
  Setting : (name value : List ℕ) → Argument
  Wrong : Argument

-- a word that names something: it isn't empty and doesn't begin with `-`
abbrev pub is_name : List ℕ → Bool
is_name [] = false
is_name (b ∷ bs) = not (b == 45)

-- an option of this name, where the value is one
abbrev pub setting : (name value : List ℕ) → Argument
setting name value = if is_name value then Setting name value else Wrong

-- the byte `=`
abbrev pub is_equals : ℕ → Bool
is_equals b = b == 61

-- `--x` and `--x=value`
abbrev pub is_option : List ℕ → Bool
is_option word = starts_with nat_eq word (codes "--")

-- `--x`, whose value is the next word
abbrev pub awaits_value : List ℕ → Bool
awaits_value word = is_option word && not (list_any is_equals word)

-- `--x=value`
abbrev pub joined : List ℕ → Argument
joined word = setting (before_first is_equals (drop 2 word)) (after_first is_equals (drop 2 word))

-- what a word is that doesn't go with the next one
abbrev pub alone : List ℕ → Argument
alone word = if is_name word then Positional word else (if is_option word && list_any is_equals word then joined word else Wrong)

-- what the words are, in order
abbrev pub arguments : List (List ℕ) → List Argument
arguments [] = []
arguments (word ∷ []) = alone word ∷ []
arguments (word ∷ next ∷ words) = if awaits_value word then setting (drop 2 word) next ∷ arguments words else alone word ∷ arguments (next ∷ words)

-- ---- what is found among them

-- the positional words, in order
abbrev pub positional : List Argument → List (List ℕ)
positional [] = []
positional (Positional word ∷ more) = word ∷ positional more
positional (Setting name value ∷ more) = positional more
positional (Wrong ∷ more) = positional more

-- the value of an option, where it is given
abbrev pub value_of : (name : List ℕ) → List Argument → Option (List ℕ)
value_of name [] = None
value_of name (Positional word ∷ more) = value_of name more
value_of name (Setting given value ∷ more) = if bytes_eq given name then Some value else value_of name more
value_of name (Wrong ∷ more) = value_of name more

-- none is wrong, and each option is one that may be given and comes once
abbrev pub are_fit : (may_be_given : List ℕ → Bool) → List Argument → Bool
are_fit may_be_given [] = true
are_fit may_be_given (Positional word ∷ more) = are_fit may_be_given more
are_fit may_be_given (Setting name value ∷ more) = may_be_given name && (is_none (value_of name more) && are_fit may_be_given more)
are_fit may_be_given (Wrong ∷ more) = false

-- ---- numbers

-- the number that a text is in decimal, without a leading zero, where it is within these bounds
abbrev pub number_within : (low high : ℕ) → List ℕ → Option ℕ
number_within low high text = let n = digits_value 10 text in if bytes_eq (decimal n) text && (nat_le low n && nat_le n high) then Some n else None

-- the number of an option that may be given, or else its default
abbrev pub number_or : (low high default : ℕ) → (given : Option (List ℕ)) → Option ℕ
number_or low high default None = Some default
number_or low high default (Some text) = number_within low high text

-- ---- worked rows

sixteen : number_within 1 16 (codes "16") ≡ Some 16
unfolding digits
sixteen = refl

above : number_within 1 16 (codes "17") ≡ None
unfolding digits
above = refl

leading_zero : number_within 1 16 (codes "08") ≡ None
unfolding digits
leading_zero = refl

zero_alone : number_within 0 16 (codes "0") ≡ Some 0
unfolding digits
zero_alone = refl

no_digit : number_within 0 16 (codes "1x") ≡ None
unfolding digits
no_digit = refl

both_spellings : arguments (codes "--x" ∷ codes "1" ∷ codes "b" ∷ codes "--y=2=3" ∷ []) ≡ Setting (codes "x") (codes "1") ∷ Positional (codes "b") ∷ Setting (codes "y") (codes "2=3") ∷ []
both_spellings = refl

not_values : arguments (codes "--x=" ∷ codes "--x" ∷ codes "-1" ∷ codes "-a" ∷ codes "" ∷ codes "--x" ∷ []) ≡ Wrong ∷ Wrong ∷ Wrong ∷ Wrong ∷ Wrong ∷ []
not_values = refl
