-- A list of what has cells, with one more.
use Rattle.std.proofs.Common.{◌≡◌, List, [], ◌∷◌, ◌++◌}
use Rattle.std.proofs.lemmas.List.{map-append}
use Rattle.c_spots.specs.declared.spot.Spot.{Spot}
use Rattle.c_spots.specs.SpotViews.{shown_spot, shown_spots}

pub spotted : (ss : List Spot) (s : Spot) → shown_spots (ss ++ s ∷ []) ≡ shown_spots ss ++ shown_spot s ∷ []
spotted ss s = map-append shown_spot ss (s ∷ [])
