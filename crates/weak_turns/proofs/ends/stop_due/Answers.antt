use Rattle.weak_turns.proofs.Ending.{finds_running, finds_stop}
use Rattle.weak_turns.proofs.ends.stop_due.Goals as goal

pub returns-then-is_running-clause-finds : goal.returns-then-is_running-clause-finds
returns-then-is_running-clause-finds c = finds_running c.args.cells.now c.args.seat.now c.is_running.new.seat c.is_running.result c.is_running.ensures.sees c.requires.begun c.if-is_running.true

pub returns-else-is_running-clause-finds : goal.returns-else-is_running-clause-finds
returns-else-is_running-clause-finds c = finds_stop c.args.cells.now c.args.seat.now c.is_running.new.seat c.is_running.result c.is_running.ensures.sees c.requires.begun c.if-is_running.false
