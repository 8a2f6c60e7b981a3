use Rattle.std.proofs.Common.{ap, ◌∙◌}
use Rattle.flow_code.specs.Next.{has_ended}
use Rattle.shared_cells.specs.Seats.{view_of}
use Rattle.weak_turns.proofs.Advancing.{carried, carried_rested, carried_out, advances_out, advances_none, advances_some}
use Rattle.weak_turns.proofs.Showing.{rested_phase}
use Rattle.weak_turns.proofs.turn.advance.Goals as goal

pub returns-then-lacks_memory-clause-advances : goal.returns-then-lacks_memory-clause-advances
returns-then-lacks_memory-clause-advances c = advances_out c.args.cells.now c.args.seat.now c.lacks_memory.new.seat c.lacks_memory.result c.lacks_memory.ensures.tells c.args.since.now c.args.budget c.args.turn c.if-lacks_memory.true

pub returns-then-lacks_memory-clause-carrying : goal.returns-then-lacks_memory-clause-carrying
returns-then-lacks_memory-clause-carrying c = carried c.args.cells.now c.args.seat.now c.lacks_memory.new.seat c.lacks_memory.result c.lacks_memory.ensures.tells c.args.run.now c.lacks_memory.ensures.seat c.requires.carrying

pub step-requires-clause-carrying : goal.step-requires-clause-carrying
step-requires-clause-carrying c = carried_rested c.args.cells.now c.args.seat.now c.lacks_memory.new.seat c.lacks_memory.result c.lacks_memory.ensures.tells c.args.run.now c.prepare.new.run c.lacks_memory.ensures.seat c.requires.carrying c.prepare.ensures.rests c.requires.open

pub returns-in-Err-clause-carrying : goal.returns-in-Err-clause-carrying
returns-in-Err-clause-carrying c =
    let a = c.args.seat.now in
    let b = c.lacks_memory.new.seat in
    let tells = c.lacks_memory.ensures.tells in
    carried_out c.args.cells.now a b c.lacks_memory.result tells c.no_memory.new.seat c.prepare.new.run c.no_memory.ensures.seat c.no_memory.ensures.view c.no_memory.ensures.marks
    (carried_rested c.args.cells.now a b c.lacks_memory.result tells c.args.run.now c.prepare.new.run c.lacks_memory.ensures.seat c.requires.carrying c.prepare.ensures.rests c.requires.open)

pub step-requires-clause-open : goal.step-requires-clause-open
step-requires-clause-open c =
    let old = c.args.seat.now in
    ap has_ended (rested_phase (view_of old) old.marks c.args.run.now c.requires.carrying.carries c.prepare.new.run c.prepare.ensures.rests) ∙ c.requires.open

pub returns-in-Ok-clause-advances : goal.returns-in-Ok-clause-advances
returns-in-Ok-clause-advances c = advances_some c.args.cells.now c.args.seat.now c.lacks_memory.new.seat c.lacks_memory.result c.lacks_memory.ensures.tells c.step.new.seat c.args.since.now c.step.new.since c.args.budget c.args.turn c.step.result c.if-lacks_memory.false c.step.ensures.steps

pub returns-in-Err-clause-advances : goal.returns-in-Err-clause-advances
returns-in-Err-clause-advances c = advances_none c.args.cells.now c.args.seat.now c.lacks_memory.new.seat c.lacks_memory.result c.lacks_memory.ensures.tells c.no_memory.new.seat c.args.since.now c.args.budget c.args.turn c.no_memory.ensures.view c.no_memory.ensures.marks
