use Rattle.std.proofs.Common.{◌≡◌, ◌+◌, length, false, List}
use Rattle.std.specs.Prelude.{if◌then◌else◌}
use Rattle.facts.specs.declared.locks.Held.{Held}
use Rattle.facts.specs.Locks.{Points, PointsBelow, IsSolution}
use Rattle.lockset_flow.specs.Rounds.{points_weight, MetAll, AllGood}
use Rattle.lockset_flow.proofs.flow.settle.Given as goal

abbrev pub invariant-loop-more : goal.invariant-loop-more
invariant-loop-more l = record {
  long : length l.facts.before ≡ length l.initial.facts.before;
  down : PointsBelow l.facts l.initial.facts;
  above : (top : List Held) (y : Points) → IsSolution l.exits l.function top y → PointsBelow y l.initial.facts → PointsBelow y l.facts;
  met : l.more ≡ false → MetAll l.exits l.function l.facts;
  good : AllGood l.initial.facts → AllGood l.facts;
}

abbrev pub decreases-loop-more : goal.decreases-loop-more
decreases-loop-more l = points_weight l.facts + (if l.more then 1 else 0)
