use Rattle.weak_turns.proofs.Ending.{finds_started, finds_halted, finds_lonely, finds_none}
use Rattle.weak_turns.proofs.ends.close_due.Goals as goal

pub returns-then-not-is_idle-clause-finds : goal.returns-then-not-is_idle-clause-finds
returns-then-not-is_idle-clause-finds c = finds_started c.args.cells.now c.args.seat.now c.is_idle.new.seat c.is_idle.result c.is_idle.ensures.sees c.requires.early c.if-not-is_idle.true

pub returns-then-not-is_running-clause-finds : goal.returns-then-not-is_running-clause-finds
returns-then-not-is_running-clause-finds c = finds_halted c.args.cells.now c.args.seat.now c.is_idle.new.seat c.is_idle.result c.is_idle.ensures.sees c.requires.early c.if-not-is_idle.false c.is_running.new.seat c.is_running.result c.is_running.ensures.sees c.if-not-is_running.true

pub returns-then-not-has_live-clause-finds : goal.returns-then-not-has_live-clause-finds
returns-then-not-has_live-clause-finds c = finds_lonely c.args.cells.now c.args.seat.now c.is_idle.new.seat c.is_idle.result c.is_idle.ensures.sees c.requires.early c.if-not-is_idle.false c.is_running.new.seat c.is_running.result c.is_running.ensures.sees c.if-not-is_running.false c.has_live.new.seat c.has_live.result c.has_live.ensures.sees c.if-not-has_live.true

pub returns-clause-finds : goal.returns-clause-finds
returns-clause-finds c = finds_none c.args.cells.now c.args.seat.now c.is_idle.new.seat c.is_idle.result c.is_idle.ensures.sees c.requires.early c.if-not-is_idle.false c.is_running.new.seat c.is_running.result c.is_running.ensures.sees c.if-not-is_running.false c.has_live.new.seat c.has_live.result c.has_live.ensures.sees c.if-not-has_live.false
