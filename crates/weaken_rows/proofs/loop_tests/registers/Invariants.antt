use Rattle.std.proofs.Common.{◌≡◌, length}
use Rattle.weaken_rows.proofs.loop_tests.registers.Given as goal

abbrev pub invariant-loop-register : goal.invariant-loop-register
invariant-loop-register l = length l.rows ≡ l._register
