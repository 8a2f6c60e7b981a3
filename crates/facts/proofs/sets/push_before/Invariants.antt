use Rattle.std.proofs.Common.{◌≡◌, ◌++◌, drop}
use Rattle.facts.specs.Merges as merges
use Rattle.facts.proofs.sets.push_before.Given as goal

-- what is added and the rest make the whole
abbrev pub invariant-loop-other : goal.invariant-loop-other
invariant-loop-other g l = l.merged ++ merges.before_item g.T.SetItem.less l.item (drop l.other-index l.others) ≡ l.fn.merged ++ merges.before_item g.T.SetItem.less l.item l.others
