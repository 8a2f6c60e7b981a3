use Rattle.std.proofs.Common.{◌≡◌, ◌++◌, drop}
use Rattle.points_to.specs.Ascending.{block_of}
use Rattle.points_to.specs.Nodes.{listed}
use Rattle.points_to.proofs.tables.block_places.Given as goal

-- what is pushed and the rest make the whole
abbrev pub invariant-loop-at : goal.invariant-loop-at
invariant-loop-at l = l.lists ++ listed (drop l.at (block_of l.sets l.block)) ≡ listed (block_of l.sets l.block)
