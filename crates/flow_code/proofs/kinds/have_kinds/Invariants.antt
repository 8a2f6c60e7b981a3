use Rattle.std.proofs.Common.{◌≡◌, length}
use Rattle.flow_code.specs.Kinds as spec
use Rattle.flow_code.proofs.kinds.have_kinds.Given as goal

abbrev pub invariant-loop-rest : goal.invariant-loop-rest
invariant-loop-rest l = spec.have_kinds l.function l.rest l.wanted ≡ spec.have_kinds l.function l.arguments l.kinds

abbrev pub decreases-loop-rest : goal.decreases-loop-rest
decreases-loop-rest l = length l.rest
