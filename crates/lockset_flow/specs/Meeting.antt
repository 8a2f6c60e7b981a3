-- How two lists that ascend are walked through together.
use Rattle.std.specs.Prelude.{Bool, false, if◌then◌else◌, List, [], ◌∷◌}

module _ {X : Type 0} (less : X → X → Bool) where
  -- the items from the first on that doesn't come before x
  abbrev pub from_item : X → List X → List X
  from_item x [] = []
  from_item x (y ∷ ys) = if less y x then from_item x ys else y ∷ ys

module _ {X : Type 0} (same : X → X → Bool) where
  -- the list's first item is this one
  abbrev pub begins_with_item : X → List X → Bool
  begins_with_item x [] = false
  begins_with_item x (y ∷ ys) = same x y
