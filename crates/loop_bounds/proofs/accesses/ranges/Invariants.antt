use Rattle.std.proofs.Common.{◌≡◌, ◌++◌, drop}
use Rattle.weak_lock_facts.specs.Ranges as spec
use Rattle.loop_bounds.proofs.accesses.ranges.Given as goal

-- what is pushed and the rest make the whole
abbrev pub invariant-loop-function : goal.invariant-loop-function
invariant-loop-function l = (l.number ≡ l.function-index) × (l.out ++ spec.ranges_from l.code l.points l.number (drop l.function-index l.code.functions) ≡ spec.ranges_of l.code l.points)
