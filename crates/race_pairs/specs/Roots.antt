-- Marks of the functions with which threads are started, by their numbers.
use Rattle.std.specs.Prelude.{◌≡◌, ℕ, ◌<◌, ◌==◌, ◌||◌, Bool, false, List, length, Option, Some, None, slice_index_or}

-- those that were marked stay so, and those that pass the test are marked beside them
pub record Marks (test : ℕ → Bool) (old new : List Bool) : Type 0 where
  pub long : length new ≡ length old
  pub at : (g : ℕ) → g < length old → slice_index_or new g false ≡ slice_index_or old g false || test g

-- there is a number, and it is g
abbrev pub is_number : Option ℕ → ℕ → Bool
is_number None g = false
is_number (Some h) g = h == g
