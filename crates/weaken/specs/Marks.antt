-- Marks of items, by their places.
use Rattle.std.specs.Prelude.{◌≡◌, ℕ, ◌<◌, ◌||◌, Bool, false, List, length, Some, slice_get, slice_index_or}

-- those that were marked stay so, and those that pass the test are marked beside them
pub record Marks {X : Type 0} (items : List X) (test : X → Bool) (old new : List Bool) : Type 0 where
  pub long : length new ≡ length old
  pub at : (n : ℕ) (x : X) → slice_get items n ≡ Some x → n < length old → slice_index_or new n false ≡ (slice_index_or old n false || test x)
