use Rattle.std.proofs.Common.{◌≡◌, rules, sym, ap, subst, ◌∙◌}
use Rattle.std.proofs.lemmas.Int.{to_z-of_z}
use mir.Syntax.{w64}
use Rattle.flow_code.specs.Settle.{IsRunnable}
use Rattle.shared_cells.specs.Seats.{view_of}
use Rattle.thread_step.specs.Steps.{told_of, next_of, after, reads_after}
use Rattle.weak_turns.proofs.Moving.{own_due, is_due, operates, done, not_yet}
use Rattle.weak_turns.proofs.operations.operate.Goals as goal

pub attempt_at-requires-clause-due : goal.attempt_at-requires-clause-due
attempt_at-requires-clause-due c =
    let v = view_of c.args.seat.now in
    let n = c.args.seat.now.marks in
    let r = c.args.run.now in
    let h = c.requires.carrying in
    let own = own_due v n r h.carries c.args.op c.args.obj (subst IsRunnable (sym h.seat_of.code_is) c.requires.runnable) c.requires.settled c.requires.next in
    is_due v n r h.carries c.args.op c.args.obj own.0 own.1

pub returns-in-Done-clause-carrying : goal.returns-in-Done-clause-carrying
returns-in-Done-clause-carrying c =
    let old = c.args.seat.now in
    let v = view_of old in
    let r = c.args.run.now in
    let q = c.take_answer.new.self in
    let h = c.requires.carrying in
    let answer = c.in-Done.answer in
    let number = c.in-Done.number in
    let left : told_of q ≡ after r.flow.code r.flow.setup r.flow.number (told_of r) (next_of r) answer number =
    c.take_answer.ensures.told ∙ ap (λ z. after r.flow.code r.flow.setup r.flow.number (told_of r) (next_of r) z number) (to_z-of_z w64 answer (search rules)) in
    let kept : q.reads ≡ reads_after r.formula r.flow.number r.flow.kept.thread (next_of r) answer r.reads =
    c.take_answer.ensures.reads ∙ ap (λ z. reads_after r.formula r.flow.number r.flow.kept.thread (next_of r) z r.reads) (to_z-of_z w64 answer (search rules)) in
    let own = own_due v old.marks r h.carries c.args.op c.args.obj (subst IsRunnable (sym h.seat_of.code_is) c.requires.runnable) c.requires.settled c.requires.next in
    record {
      seat_of = c.in-Done.ensures.seat;
      carries = done c.args.at old _ q c.args.op c.args.obj answer number c.in-Done.ensures.is
          (operates v old.marks r h.carries q c.take_answer.ensures.same c.requires.settled c.args.op c.args.obj answer number own.0 c.requires.next left kept);
    }

pub returns-in-NotYet-clause-carrying : goal.returns-in-NotYet-clause-carrying
returns-in-NotYet-clause-carrying c = record {
  seat_of = c.in-NotYet.ensures.seat;
  carries = not_yet c.args.at c.args.seat.now c.attempt_at.new.seat c.args.run.now c.args.op c.args.obj c.in-NotYet.seen c.in-NotYet.ensures.is c.requires.carrying.carries;
}
