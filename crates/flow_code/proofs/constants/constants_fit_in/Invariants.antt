use Rattle.std.proofs.Common.{◌≡◌, drop}
use Rattle.flow_code.specs.Constants as spec
use Rattle.flow_code.proofs.constants.constants_fit_in.Given as goal

abbrev pub invariant-loop-instr : goal.invariant-loop-instr
invariant-loop-instr l = spec.constants_fit_in (drop l.instr-index l.instrs) ≡ spec.constants_fit_in l.instrs
