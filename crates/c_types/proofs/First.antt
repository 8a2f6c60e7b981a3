-- The first fault of two lists, one after the other.
use Rattle.std.proofs.Common.{◌≡◌, List, [], ◌∷◌, ◌++◌, Option, refl}
use Rattle.c_types.specs.declared.fault.Found.{Found}
use Rattle.c_types.specs.Found.{first_of, first_among}

pub first_of_both : (before : Option Found) (xs ys : List Found) → first_among before (xs ++ ys) ≡ first_among (first_among before xs) ys
first_of_both before [] ys = refl
first_of_both before (x ∷ xs) ys = first_of_both (first_of before x) xs ys
