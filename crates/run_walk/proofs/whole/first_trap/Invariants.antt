use Rattle.std.proofs.Common.{◌≡◌, ◌+◌, ◌≤◌, length}
use Rattle.run_walk.specs.Remains.{trap_in}
use Rattle.run_walk.proofs.whole.first_trap.Given as goal

abbrev pub invariant-loop-rest : goal.invariant-loop-rest
invariant-loop-rest l = record { same : trap_in 0 l.remains ≡ trap_in l.number l.rest; few : l.number + length l.rest ≤ 16 }

abbrev pub decreases-loop-rest : goal.decreases-loop-rest
decreases-loop-rest l = length l.rest
