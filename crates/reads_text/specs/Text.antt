-- The text of kept accesses: a line for each, ended by a newline byte. Numbers are in decimal.
use Rattle.std.specs.Prelude.{◌≡◌, refl, ℕ, false, List, [], ◌∷◌, ◌++◌, codes, decimal}
use Rattle.std.specs.Fmt.{digits, signed_decimal}
use Rattle.std.specs.List.{flat_map}
use Rattle.word_semantics.specs.Values.{number}
use Rattle.thread_interpreter.specs.declared.access.Access.{Access}

-- a number with a blank after it
abbrev pub number_text : ℕ → List ℕ
number_text n = decimal n ++ 32 ∷ []

-- a word as a signed number
abbrev pub value_text : ℕ → List ℕ
value_text word = signed_decimal (number word)

-- the thread, how many events it had made before, the cell, and the word that was read there: `0 9 7 1`
abbrev pub read_text : Access → List ℕ
read_text a = number_text a.thread ++ number_text a.count ++ number_text a.cell ++ value_text a.value ++ 10 ∷ []

-- what `record` and `replay` put under the name of `--reads`
abbrev pub reads_text_of : List Access → List ℕ
reads_text_of reads = flat_map read_text reads

-- ---- worked rows

abbrev load : (thread count cell value : ℕ) → Access
load thread count cell value = record { thread = thread; count = count; cell = cell; value = value; store = false }

two_lines : reads_text_of (load 0 9 7 1 ∷ load 12 1048576 4194303 0 ∷ []) ≡ codes "0 9 7 1\n12 1048576 4194303 0\n"
unfolding digits
two_lines = refl

below_zero : reads_text_of (load 1 2 3 18446744073709551615 ∷ []) ≡ codes "1 2 3 -1\n"
unfolding digits
below_zero = refl
