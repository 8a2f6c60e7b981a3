use Rattle.std.proofs.Common.{◌-◌, ◌≤◌, length}
use Rattle.race_pairs.specs.Groups.{AreGroups}
use Rattle.race_pairs.proofs.grouping.groups.Given as goal

abbrev pub invariant-loop-from : goal.invariant-loop-from
invariant-loop-from l = record {
  bound : l.from ≤ length l.touches;
  made : AreGroups l.summaries l.touches l.from l.all.items;
}

abbrev pub decreases-loop-from : goal.decreases-loop-from
decreases-loop-from l = length l.touches - l.from
