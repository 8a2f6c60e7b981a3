use Rattle.std.proofs.Common.{◌≡◌, take, map}
use Rattle.weak_code.specs.Weakened as spec
use Rattle.weaken.proofs.weakening.moved_loops.Given as goal

abbrev pub invariant-loop-counted : goal.invariant-loop-counted
invariant-loop-counted l = l.loops ≡ map (spec.moved_loop l.stretches l.function.instrs) (take l.counted-index l.function.loops)
