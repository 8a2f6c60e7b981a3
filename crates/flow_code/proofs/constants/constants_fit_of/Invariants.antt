use Rattle.std.proofs.Common.{◌≡◌, drop}
use Rattle.flow_code.specs.Constants as spec
use Rattle.flow_code.proofs.constants.constants_fit_of.Given as goal

abbrev pub invariant-loop-function : goal.invariant-loop-function
invariant-loop-function l = spec.constants_fit_of (drop l.function-index l.functions) ≡ spec.constants_fit_of l.functions
