use Rattle.sync_objects.specs.declared.object.ObjId.TheVariants as object
use Rattle.sync_objects.specs.declared.operation.Op.TheVariants as op
use Rattle.shared_cells.specs.Seats.{view_of}
use Rattle.weak_turns.proofs.Moving.{stop_due, stops, done, not_yet}
use Rattle.weak_turns.proofs.operations.stop.Goals as goal

pub attempt_at-requires-clause-due : goal.attempt_at-requires-clause-due
attempt_at-requires-clause-due c = stop_due (view_of c.args.seat.now) c.args.seat.now.marks c.args.run.now c.requires.carrying.carries c.requires.begun c.requires.open

pub returns-in-Done-clause-carrying : goal.returns-in-Done-clause-carrying
returns-in-Done-clause-carrying c =
    let old = c.args.seat.now in
    let q = c.stop.new.self in
    record {
      seat_of = c.in-Done.ensures.seat;
      carries = done c.args.at old _ q op.Stop object.Halt c.in-Done.answer c.in-Done.number c.in-Done.ensures.is
          (stops (view_of old) old.marks c.args.run.now c.requires.carrying.carries q c.stop.ensures.same c.requires.open c.stop.ensures.reads c.in-Done.answer c.in-Done.number c.stop.ensures.told);
    }

pub returns-in-NotYet-clause-carrying : goal.returns-in-NotYet-clause-carrying
returns-in-NotYet-clause-carrying c = record {
  seat_of = c.in-NotYet.ensures.seat;
  carries = not_yet c.args.at c.args.seat.now c.attempt_at.new.seat c.args.run.now op.Stop object.Halt c.in-NotYet.seen c.in-NotYet.ensures.is c.requires.carrying.carries;
}
