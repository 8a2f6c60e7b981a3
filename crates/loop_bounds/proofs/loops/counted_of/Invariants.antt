use Rattle.std.proofs.Common.{◌≡◌, ◌++◌, drop}
use Rattle.std.specs.List.{filter}
use Rattle.weak_lock_facts.specs.Loops as spec
use Rattle.loop_bounds.proofs.loops.counted_of.Given as goal

-- what is found and the rest make the whole
abbrev pub invariant-loop-counted : goal.invariant-loop-counted
invariant-loop-counted l = l.found ++ filter (spec.is_counted l.function) (drop l.counted-index l.function.loops) ≡ spec.counted_of l.function
