use Rattle.std.proofs.Common.{◌≡◌, length}
use Rattle.facts.specs.Sets.{are_ascending}
use Rattle.facts.proofs.sets.ascend.Given as goal

abbrev pub invariant-loop-rest : goal.invariant-loop-rest
invariant-loop-rest g l = are_ascending g.T.SetItem.less l.rest ≡ are_ascending g.T.SetItem.less l.items

abbrev pub decreases-loop-rest : goal.decreases-loop-rest
decreases-loop-rest g l = length l.rest
