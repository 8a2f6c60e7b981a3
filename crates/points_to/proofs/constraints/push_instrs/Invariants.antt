use Rattle.std.proofs.Common.{◌≡◌, ◌++◌, drop}
use Rattle.facts.specs.PointsTo as spec
use Rattle.points_to.proofs.constraints.push_instrs.Given as goal

-- what is pushed and the rest make the whole
abbrev pub invariant-loop-at : goal.invariant-loop-at
invariant-loop-at l = l.out ++ spec.instrs_constraints l.function l.instrs l.at (drop l.at l.instrs) ≡ l.fn.out ++ spec.instrs_constraints l.function l.instrs 0 l.instrs
