use Rattle.std.proofs.Common.{◌≡◌, ◌++◌, drop}
use Rattle.weak_lock_facts.specs.Loops as spec
use Rattle.loop_bounds.proofs.loops.counted_loops.Given as goal

-- what is pushed and the rest make the whole
abbrev pub invariant-loop-function : goal.invariant-loop-function
invariant-loop-function l = l.out ++ spec.counted_from l.number (drop l.function-index l.code.functions) ≡ spec.counted_loops_of l.code
