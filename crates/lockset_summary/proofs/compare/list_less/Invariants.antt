use Rattle.std.proofs.Common.{◌≡◌, ◌≤◌, drop, length}
use Rattle.facts.specs.Sets as sets
use Rattle.lockset_summary.proofs.compare.list_less.Given as goal

abbrev pub invariant-loop-k : goal.invariant-loop-k
invariant-loop-k g l = record {
  same : sets.list_less g.T.SetItem.less g.T.SetItem.same l.items l.others ≡ sets.list_less g.T.SetItem.less g.T.SetItem.same (drop l.k l.items) (drop l.k l.others);
  within : l.k ≤ length l.others;
}
