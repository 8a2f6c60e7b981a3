use Rattle.std.proofs.Common.{◌≡◌, length}
use Rattle.facts.specs.Merges as merges
use Rattle.facts.proofs.sets.after_item.Given as goal

abbrev pub invariant-loop-rest : goal.invariant-loop-rest
invariant-loop-rest g l = merges.after_item g.T.SetItem.less g.T.SetItem.same l.item l.rest ≡ merges.after_item g.T.SetItem.less g.T.SetItem.same l.item l.others

abbrev pub decreases-loop-rest : goal.decreases-loop-rest
decreases-loop-rest g l = length l.rest
