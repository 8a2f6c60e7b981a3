use Rattle.std.proofs.Common.{◌≡◌, length}
use Rattle.flow_code.specs.Regions as spec
use Rattle.flow_code.proofs.regions.ascend.Given as goal

abbrev pub invariant-loop-rest : goal.invariant-loop-rest
invariant-loop-rest l = spec.ascend l.rest ≡ spec.ascend l.numbers

abbrev pub decreases-loop-rest : goal.decreases-loop-rest
decreases-loop-rest l = length l.rest
