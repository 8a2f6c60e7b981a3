-- Sets of numbers as ascending rows, and rows in blocks.
use Rattle.std.specs.Prelude.{ℕ, ◌+◌, ◌-◌, ◌^◌, ◌<◌, List, [], ◌∷◌, length, map, slice_index, slice_index_or}
use Rattle.std.specs.List.{Contains}

-- strictly, so that no number stands twice
abbrev pub IsAscending : List ℕ → Type 0
IsAscending xs = (i j : ℕ) → i < j → j < length xs → slice_index xs i < slice_index xs j

-- the n-th row; the empty set where there is none
abbrev pub row_of : List (List ℕ) → ℕ → List ℕ
row_of rows n = slice_index_or rows n []

-- the number is in the row
abbrev pub In : List (List ℕ) → ℕ → ℕ → Type 0
In rows n p = Contains (row_of rows n) p

-- how much the rows can still grow
abbrev pub room : List (List ℕ) → ℕ
room [] = 0
room (row ∷ rows) = (2 ^ 63 - length row) + room rows

-- rows that are sets, each of fewer than 2^63 numbers
pub record AreSound (rows : List (List ℕ)) : Type 0 where
  pub ascend : (n : ℕ) → IsAscending (row_of rows n)
  pub small : (n : ℕ) → length (row_of rows n) < 2 ^ 63

-- ---- blocks of rows

-- the b-th block; no rows where there is none
abbrev pub block_of : List (List (List ℕ)) → ℕ → List (List ℕ)
block_of blocks b = slice_index_or blocks b []

-- the n-th row of the b-th block; else the empty set
abbrev pub row_at : List (List (List ℕ)) → (b n : ℕ) → List ℕ
row_at blocks b n = row_of (block_of blocks b) n

-- how many rows each block has
abbrev pub widths : List (List (List ℕ)) → List ℕ
widths blocks = map length blocks

-- how much all the rows can still grow
abbrev pub rooms : List (List (List ℕ)) → ℕ
rooms [] = 0
rooms (rows ∷ blocks) = room rows + rooms blocks

-- of all rows of all blocks
abbrev pub AreAscending : List (List (List ℕ)) → Type 0
AreAscending blocks = (b n : ℕ) → IsAscending (row_at blocks b n)
