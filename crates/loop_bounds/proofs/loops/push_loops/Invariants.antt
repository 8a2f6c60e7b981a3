use Rattle.std.proofs.Common.{◌≡◌, ◌++◌, drop, map}
use Rattle.weak_lock_facts.specs.Loops as spec
use Rattle.loop_bounds.proofs.loops.push_loops.Given as goal

-- what is pushed and the rest make the whole
abbrev pub invariant-loop-counted : goal.invariant-loop-counted
invariant-loop-counted l = l.out ++ map (spec.loop_in l.number) (drop l.counted-index l.loops) ≡ l.fn.out ++ map (spec.loop_in l.number) l.loops
