use Rattle.std.proofs.Common.{◌≡◌, length}
use Rattle.flow_code.specs.Addresses as spec
use Rattle.flow_code.proofs.addresses.begin_with.Given as goal

abbrev pub invariant-loop-wanted_left : goal.invariant-loop-wanted_left
invariant-loop-wanted_left l = spec.begin_with l.kinds_left l.wanted_left ≡ spec.begin_with l.kinds l.wanted

abbrev pub decreases-loop-wanted_left : goal.decreases-loop-wanted_left
decreases-loop-wanted_left l = length l.wanted_left
