use Rattle.std.proofs.Common.{◌≡◌, ◌≤◌, length, drop}
use Rattle.facts.specs.Locks as spec
use Rattle.facts.specs.declared.locks.Minus.TheVariants.{Listed}
use Rattle.facts.proofs.relative.listed_seen.Given as goal

abbrev pub invariant-loop-left : goal.invariant-loop-left
invariant-loop-left l = record {
  within : l.left ≤ length l.paths;
  same : spec.listed_seen l.actuals (drop l.left l.paths) ≡ Listed l.seen;
}

abbrev pub decreases-loop-left : goal.decreases-loop-left
decreases-loop-left l = l.left
