use Rattle.sync_objects.specs.declared.object.ObjId.TheVariants as object
use Rattle.sync_objects.specs.declared.operation.Op.TheVariants as op
use Rattle.std.proofs.Common.{sym, subst}
use Rattle.flow_code.specs.Settle.{IsRunnable}
use Rattle.shared_cells.specs.Seats.{view_of}
use Rattle.weak_turns.proofs.Moving.{revoke_due, gives_up, done, not_yet}
use Rattle.weak_turns.proofs.operations.give_up.Goals as goal

pub attempt_at-requires-clause-due : goal.attempt_at-requires-clause-due
attempt_at-requires-clause-due c = revoke_due (view_of c.args.seat.now) c.args.seat.now.marks c.args.run.now c.requires.carrying.carries c.args.place.lock c.args.place.stripe c.requires.settled c.requires.open c.requires.held c.requires.entries c.requires.revokes

pub returns-in-Done-clause-carrying : goal.returns-in-Done-clause-carrying
returns-in-Done-clause-carrying c =
    let old = c.args.seat.now in
    let r = c.args.run.now in
    let q = c.give_up.new.self in
    let h = c.requires.carrying in
    record {
      seat_of = c.in-Done.ensures.seat;
      carries = done c.args.at old _ q op.Revoke (object.Weak c.args.place.lock c.args.place.stripe) c.in-Done.answer c.in-Done.number c.in-Done.ensures.is
          (gives_up (view_of old) old.marks r h.carries q c.give_up.ensures.same c.requires.open c.give_up.ensures.reads c.args.place.lock c.args.place.stripe c.in-Done.answer c.in-Done.number (subst IsRunnable (sym h.seat_of.code_is) c.requires.runnable) c.requires.settled c.requires.held c.give_up.ensures.told);
    }

pub returns-in-NotYet-clause-carrying : goal.returns-in-NotYet-clause-carrying
returns-in-NotYet-clause-carrying c = record {
  seat_of = c.in-NotYet.ensures.seat;
  carries = not_yet c.args.at c.args.seat.now c.attempt_at.new.seat c.args.run.now op.Revoke (object.Weak c.args.place.lock c.args.place.stripe) c.in-NotYet.seen c.in-NotYet.ensures.is c.requires.carrying.carries;
}
