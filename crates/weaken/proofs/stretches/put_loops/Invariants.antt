use Rattle.std.proofs.Common.{◌≡◌, ◌++◌, take}
use Rattle.std.specs.List.{filter_map}
use Rattle.weak_code.specs.Stretches as spec
use Rattle.weaken.proofs.stretches.put_loops.Given as goal

abbrev pub invariant-loop-counted : goal.invariant-loop-counted
invariant-loop-counted l = l.stretches.items ≡ l.initial.stretches.items ++ filter_map (λ c. spec.loop_stretch c (spec.spans_of l.function.instrs c.at l.accesses)) (take l.counted-index l.function.loops)
