use Rattle.std.proofs.Common.{◌≡◌, ◌++◌, drop, map}
use Rattle.points_to.specs.Ascending.{row_at}
use Rattle.points_to.specs.Nodes.{place_from}
use Rattle.points_to.proofs.tables.places_of.Given as goal

-- what is pushed and the rest make the whole
abbrev pub invariant-loop-k : goal.invariant-loop-k
invariant-loop-k l = l.places ++ map place_from (drop l.k (row_at l.sets l.spot.block l.spot.at)) ≡ map place_from (row_at l.sets l.spot.block l.spot.at)
