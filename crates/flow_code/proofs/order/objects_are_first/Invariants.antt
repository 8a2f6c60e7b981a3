use Rattle.std.proofs.Common.{◌≡◌, length}
use Rattle.flow_code.specs.Order as spec
use Rattle.flow_code.proofs.order.objects_are_first.Given as goal

abbrev pub invariant-loop-rest : goal.invariant-loop-rest
invariant-loop-rest l = spec.objects_are_first l.rest ≡ spec.objects_are_first l.instrs

abbrev pub decreases-loop-rest : goal.decreases-loop-rest
decreases-loop-rest l = length l.rest
