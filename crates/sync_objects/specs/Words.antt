-- The word of a synchronisation object: how many operations it had so far, and its state in the low 32 bits.
use Rattle.std.specs.Prelude.{ℕ, ◌+◌, ◌*◌, ◌/◌, ◌%◌, ◌^◌}

-- how many operations the object had
abbrev pub number_of : ℕ → ℕ
number_of word = word / 2 ^ 32

-- the packed state of the object
abbrev pub state_of : ℕ → ℕ
state_of word = word % 2 ^ 32

-- the word with this number and this packed state
abbrev pub word_of : ℕ → ℕ → ℕ
word_of number state = number * 2 ^ 32 + state % 2 ^ 32
