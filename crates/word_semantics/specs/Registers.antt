-- Registers and the words in them.
use Rattle.std.specs.Prelude.{ℕ, List, map, slice_index_or}

-- the word in a register
abbrev pub register : List ℕ → ℕ → ℕ
register registers r = slice_index_or registers r 0

-- the registers' words of some arguments
abbrev pub words_of : List ℕ → List ℕ → List ℕ
words_of registers arguments = map (register registers) arguments
