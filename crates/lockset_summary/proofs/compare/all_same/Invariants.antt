use Rattle.std.proofs.Common.{◌≡◌, drop}
use Rattle.facts.specs.Sets as sets
use Rattle.lockset_summary.proofs.compare.all_same.Given as goal

abbrev pub invariant-loop-k : goal.invariant-loop-k
invariant-loop-k g l = sets.all_same g.T.SetItem.same l.items l.others ≡ sets.all_same g.T.SetItem.same (drop l.k l.items) (drop l.k l.others)
