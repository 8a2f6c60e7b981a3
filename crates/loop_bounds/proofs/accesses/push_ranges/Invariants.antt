use Rattle.std.proofs.Common.{◌≡◌, ◌++◌, drop}
use Rattle.weak_lock_facts.specs.Ranges as spec
use Rattle.loop_bounds.proofs.accesses.push_ranges.Given as goal

-- what is pushed and the rest make the whole
abbrev pub invariant-loop-at : goal.invariant-loop-at
invariant-loop-at l = l.out ++ spec.ranges_in l.code l.points l.body.number l.body.function.now.instrs l.body.loops.now l.at (drop l.at l.body.function.now.instrs) ≡ l.fn.out ++ spec.ranges_in l.code l.points l.body.number l.body.function.now.instrs l.body.loops.now 0 l.body.function.now.instrs
