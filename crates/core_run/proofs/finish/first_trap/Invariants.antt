use Rattle.std.proofs.Common.{◌≡◌, ◌+◌, ◌≤◌, length}
use Rattle.core_run.specs.Shown.{trap_from}
use Rattle.core_run.proofs.finish.first_trap.Given as goal

abbrev pub invariant-loop-rest : goal.invariant-loop-rest
invariant-loop-rest l = record { same : trap_from 0 l.flows ≡ trap_from l.thread l.rest; few : l.thread + length l.rest ≤ 16 }

abbrev pub decreases-loop-rest : goal.decreases-loop-rest
decreases-loop-rest l = length l.rest
