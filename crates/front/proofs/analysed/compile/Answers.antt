use Rattle.front.proofs.Unlocked.{loops_apart, loops_closed, without_locks}
use Rattle.front.proofs.analysed.compile.Goals as goal

pub analysed_for-requires-clause-without_locks : goal.analysed_for-requires-clause-without_locks
analysed_for-requires-clause-without_locks c = without_locks c.args.text.now c.in_ok-code.code c.in_ok-code.ensures.code

pub analysed_for-requires-clause-apart : goal.analysed_for-requires-clause-apart
analysed_for-requires-clause-apart c = loops_apart c.args.text.now c.in_ok-code.code c.in_ok-code.ensures.code

pub analysed_for-requires-clause-closed : goal.analysed_for-requires-clause-closed
analysed_for-requires-clause-closed c = loops_closed c.args.text.now c.in_ok-code.code c.in_ok-code.ensures.code
