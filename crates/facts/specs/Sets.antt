-- Sets as lists that ascend. Their items have an order, and a test of whether two are one.
use Rattle.std.specs.Prelude.{◌≡◌, ◌&&◌, ◌||◌, Bool, true, false, if◌then◌else◌, List, [], ◌∷◌}
use Rattle.std.specs.List.{list_any}

-- a total order, with a test of equality
pub record Orders {X : Type 0} (less same : X → X → Bool) : Type 0 where
  pub same_is : (x y : X) → same x y ≡ true → x ≡ y
  pub same_self : (x : X) → same x x ≡ true
  pub self : (x : X) → less x x ≡ false
  pub along : (x y z : X) → less x y ≡ true → less y z ≡ true → less x z ≡ true
  pub total : (x y : X) → less x y ≡ false → less y x ≡ false → x ≡ y

module _ {X : Type 0} (same : X → X → Bool) where
  -- the item itself is in the set
  abbrev pub has : X → List X → Bool
  has x ys = list_any (same x) ys

  -- the same items one by one, and as many
  abbrev pub all_same : List X → List X → Bool
  all_same [] [] = true
  all_same [] (y ∷ ys) = false
  all_same (x ∷ xs) [] = false
  all_same (x ∷ xs) (y ∷ ys) = same x y && all_same xs ys

module _ {X : Type 0} (less : X → X → Bool) where
  -- the item comes before the first of the others, if there is one
  abbrev pub comes_first : X → List X → Bool
  comes_first x [] = true
  comes_first x (y ∷ ys) = less x y

  -- a set's list has no item twice, and one order only
  abbrev pub are_ascending : List X → Bool
  are_ascending [] = true
  are_ascending (x ∷ []) = true
  are_ascending (x ∷ y ∷ ys) = less x y && are_ascending (y ∷ ys)

module _ {X : Type 0} (less same : X → X → Bool) where
  -- the items and one more, in its place
  abbrev pub with : X → List X → List X
  with x [] = x ∷ []
  with x (y ∷ ys) = if less x y then x ∷ y ∷ ys else if same x y then y ∷ ys else y ∷ with x ys

  -- all items of both sets, each once, if the first ascends
  abbrev pub union : List X → List X → List X
  union xs [] = xs
  union xs (y ∷ ys) = with y (union xs ys)

  -- the order of words in a dictionary: the first different item decides
  abbrev pub list_less : List X → List X → Bool
  list_less [] [] = false
  list_less [] (y ∷ ys) = true
  list_less (x ∷ xs) [] = false
  list_less (x ∷ xs) (y ∷ ys) = less x y || (same x y && list_less xs ys)
