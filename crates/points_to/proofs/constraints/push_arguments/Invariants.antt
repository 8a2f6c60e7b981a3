use Rattle.std.proofs.Common.{◌≡◌, ◌++◌, drop}
use Rattle.facts.specs.PointsTo as spec
use Rattle.points_to.proofs.constraints.push_arguments.Given as goal

-- what is pushed and the rest make the whole
abbrev pub invariant-loop-register : goal.invariant-loop-register
invariant-loop-register l = l.out ++ spec.argument_constraints l.function (drop l.register-index l.arguments) l.callee l.formal ≡ l.fn.out ++ spec.argument_constraints l.function l.arguments l.callee 0
