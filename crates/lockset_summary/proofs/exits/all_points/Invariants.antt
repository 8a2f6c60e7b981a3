use Rattle.lockset_summary.specs.Exits.{AreNearing, weights}
use Rattle.lockset_summary.proofs.exits.all_points.Given as goal

abbrev pub invariant-loop-alloc : goal.invariant-loop-alloc
invariant-loop-alloc l = AreNearing l.code l.tops l.exits l.points

abbrev pub decreases-loop-alloc : goal.decreases-loop-alloc
decreases-loop-alloc l = weights l.exits
