use Rattle.std.proofs.Common.{◌≡◌, ◌++◌, drop}
use Rattle.facts.specs.PointsTo as spec
use Rattle.points_to.proofs.constraints.push_functions.Given as goal

-- what is pushed and the rest make the whole
abbrev pub invariant-loop-function : goal.invariant-loop-function
invariant-loop-function l = l.out ++ spec.functions_constraints l.number (drop l.function-index l.functions) ≡ l.fn.out ++ spec.functions_constraints 0 l.functions
