use Rattle.std.proofs.Common.{◌≡◌, drop}
use Rattle.weak_lock_facts.specs.Ranges as spec
use Rattle.loop_bounds.proofs.accesses.searched_round.Given as goal

abbrev pub invariant-loop-counted : goal.invariant-loop-counted
invariant-loop-counted l = spec.loop_round l.instrs l.at (drop l.counted-index l.loops) ≡ spec.loop_round l.instrs l.at l.loops
