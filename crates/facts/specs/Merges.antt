-- How two lists that ascend are made one.
use Rattle.std.specs.Prelude.{Bool, if◌then◌else◌, List, [], ◌∷◌, ◌++◌}

module _ {X : Type 0} (less : X → X → Bool) where
  -- those in front that come before x
  abbrev pub before_item : X → List X → List X
  before_item x [] = []
  before_item x (y ∷ ys) = if less y x then y ∷ before_item x ys else []

module _ {X : Type 0} (less same : X → X → Bool) where
  -- those from the first on that comes after x
  abbrev pub after_item : X → List X → List X
  after_item x [] = []
  after_item x (y ∷ ys) = if less y x then after_item x ys else if same y x then ys else y ∷ ys

  -- the union of two sets in one pass, with each item once
  abbrev pub merge : List X → List X → List X
  merge [] ys = ys
  merge (x ∷ xs) ys = before_item less x ys ++ x ∷ merge xs (after_item x ys)
