use Rattle.std.proofs.Common.{◌≡◌, sym, subst, ◌∙◌}
use Rattle.sync_objects.specs.declared.object.ObjId.TheVariants as object
use Rattle.sync_objects.specs.declared.operation.Op.TheVariants as op
use Rattle.shared_cells.specs.Seats.{view_of, AttemptIs}
use Rattle.shared_cells.specs.declared.attempt.Attempt.TheVariants as attempt
use Rattle.weak_turns.proofs.Moving.{close_due, shuts, done, not_yet}
use Rattle.weak_turns.proofs.operations.close_slot.Goals as goal

pub attempt_at-requires-clause-due : goal.attempt_at-requires-clause-due
attempt_at-requires-clause-due c =
    let h = c.requires.carrying in
    close_due (view_of c.args.seat.now) c.args.seat.now.marks c.args.run.now h.carries c.thread.result (c.thread.ensures ∙ sym h.seat_of.thread_is) c.requires.early c.requires.open

pub returns-in-Done-clause-carrying : goal.returns-in-Done-clause-carrying
returns-in-Done-clause-carrying c =
    let old = c.args.seat.now in
    let q = c.close_slot.new.self in
    let h = c.requires.carrying in
    let is : c.thread.result ≡ (view_of old).from = c.thread.ensures ∙ sym h.seat_of.thread_is in
    let came = subst (λ k. AttemptIs c.args.at old c.attempt_at.new.seat op.Close (object.Slot k) (attempt.Done c.in-Done.answer c.in-Done.number)) is c.in-Done.ensures.is in
    record {
      seat_of = c.in-Done.ensures.seat;
      carries = done c.args.at old c.attempt_at.new.seat q op.Close (object.Slot (view_of old).from) c.in-Done.answer c.in-Done.number came
          (shuts (view_of old) old.marks c.args.run.now h.carries q c.close_slot.ensures.same c.requires.open c.close_slot.ensures.reads c.in-Done.answer c.in-Done.number c.close_slot.ensures.told);
    }

pub returns-in-NotYet-clause-carrying : goal.returns-in-NotYet-clause-carrying
returns-in-NotYet-clause-carrying c = record {
  seat_of = c.in-NotYet.ensures.seat;
  carries = not_yet c.args.at c.args.seat.now c.attempt_at.new.seat c.args.run.now op.Close (object.Slot c.thread.result) c.in-NotYet.seen c.in-NotYet.ensures.is c.requires.carrying.carries;
}
