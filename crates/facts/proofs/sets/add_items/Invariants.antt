use Rattle.std.proofs.Common.{◌≡◌, ◌≤◌, length, drop}
use Rattle.facts.specs.Sets.{union}
use Rattle.facts.proofs.sets.add_items.Given as goal

abbrev pub invariant-loop-left : goal.invariant-loop-left
invariant-loop-left g l = record {
  within : l.left ≤ length l.others;
  same : l.items ≡ union g.T.SetItem.less g.T.SetItem.same l.initial.items (drop l.left l.others);
}

abbrev pub decreases-loop-left : goal.decreases-loop-left
decreases-loop-left g l = l.left
