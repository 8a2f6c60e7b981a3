-- A list put in order by a test of which item comes before which.
use Rattle.std.specs.Prelude.{Bool, if◌then◌else◌, List, [], ◌∷◌}

-- the item put before the first that doesn't come before it
abbrev pub with_item : {X : Type 0} → (X → X → Bool) → X → List X → List X
with_item less x [] = x ∷ []
with_item less x (y ∷ ys) = if less y x then y ∷ with_item less x ys else x ∷ y ∷ ys

-- items of which neither comes before the other stay as they stand
abbrev pub sorted_by : {X : Type 0} → (X → X → Bool) → List X → List X
sorted_by less [] = []
sorted_by less (x ∷ xs) = with_item less x (sorted_by less xs)
