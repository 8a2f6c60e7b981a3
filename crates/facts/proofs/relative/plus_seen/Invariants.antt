use Rattle.std.proofs.Common.{◌≡◌, ◌≤◌, length, drop}
use Rattle.facts.specs.Locks as spec
use Rattle.facts.proofs.relative.plus_seen.Given as goal

abbrev pub invariant-loop-left : goal.invariant-loop-left
invariant-loop-left l = record {
  within : l.left ≤ length l.plus;
  same : l.seen ≡ spec.plus_seen l.actuals (drop l.left l.plus);
}

abbrev pub decreases-loop-left : goal.decreases-loop-left
decreases-loop-left l = l.left
