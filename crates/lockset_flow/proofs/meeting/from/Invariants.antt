use Rattle.std.proofs.Common.{◌≡◌, length}
use Rattle.lockset_flow.specs.Meeting.{from_item}
use Rattle.lockset_flow.proofs.meeting.from.Given as goal

abbrev pub invariant-loop-rest : goal.invariant-loop-rest
invariant-loop-rest g l = from_item g.T.SetItem.less l.item l.rest ≡ from_item g.T.SetItem.less l.item l.items

abbrev pub decreases-loop-rest : goal.decreases-loop-rest
decreases-loop-rest g l = length l.rest
