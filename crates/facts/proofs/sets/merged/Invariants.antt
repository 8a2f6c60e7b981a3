use Rattle.std.proofs.Common.{◌≡◌, ◌++◌, drop}
use Rattle.facts.specs.Merges as merges
use Rattle.facts.proofs.sets.merged.Given as goal

-- what is merged and the rest make the whole
abbrev pub invariant-loop-item : goal.invariant-loop-item
invariant-loop-item g l = l.merged ++ merges.merge g.T.SetItem.less g.T.SetItem.same (drop l.item-index l.items) l.rest ≡ merges.merge g.T.SetItem.less g.T.SetItem.same l.items l.others
