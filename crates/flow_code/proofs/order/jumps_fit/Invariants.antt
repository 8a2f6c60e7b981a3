use Rattle.std.proofs.Common.{◌≡◌, drop}
use Rattle.flow_code.specs.Order as spec
use Rattle.flow_code.proofs.order.jumps_fit.Given as goal

abbrev pub invariant-loop-at : goal.invariant-loop-at
invariant-loop-at l = spec.jumps_fit l.instrs l.at (drop l.at l.instrs) ≡ spec.jumps_fit l.instrs 0 l.instrs
