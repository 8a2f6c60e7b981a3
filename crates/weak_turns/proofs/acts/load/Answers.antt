use Rattle.std.proofs.Common.{◌≡◌, ◌∙◌, ap, subst, rules, to_z, of_z}
use Rattle.std.proofs.lemmas.Int.{to_z-of_z}
use mir.Syntax.{w64}
use Rattle.word_semantics.specs.Values.{number}
use Rattle.word_semantics.specs.declared.event.Action.TheVariants as action
use Rattle.shared_cells.specs.Plays.{IsReached}
use Rattle.shared_cells.specs.Seats.{view_of}
use Rattle.shared_cells.specs.Threads.{pending, after_load}
use Rattle.shared_cells.specs.Views.{with_thread}
use Rattle.thread_step.specs.Steps.{told_of, next_of, after, reads_after}
use Rattle.weak_turns.proofs.Moving.{loads}
use Rattle.weak_turns.proofs.Showing.{carries_at, comes_next, lives_if}
use Rattle.weak_turns.proofs.acts.load.Goals as goal

pub load-word-requires-clause-next : goal.load-word-requires-clause-next
load-word-requires-clause-next c =
    let v = view_of c.args.seat.now in
    let n = c.args.seat.now.marks in
    let r = c.args.run.now in
    let h = c.requires.carrying.carries in
    comes_next v n r h c.requires.settled (action.Load c.args.cell) (lives_if v n r h (action.Load c.args.cell) c.requires.next (λ f. cc)) c.requires.next

pub returns-clause-carrying : goal.returns-clause-carrying
returns-clause-carrying c =
    let v = view_of c.args.seat.now in
    let n = c.args.seat.now.marks in
    let r = c.args.run.now in
    let q = c.take_answer.new.self in
    let word = c.load-word.result in
    let answer = c.cast_signed.result in
    let is : answer ≡ number word = search rules in
    let same : to_z w64 (of_z w64 answer) ≡ answer = to_z-of_z w64 answer (search rules) in
    let left : told_of q ≡ after r.flow.code r.flow.setup r.flow.number (told_of r) (next_of r) answer 0 = c.take_answer.ensures.told ∙ ap (λ z. after r.flow.code r.flow.setup r.flow.number (told_of r) (next_of r) z 0) same in
    let kept : q.reads ≡ reads_after r.formula r.flow.number r.flow.kept.thread (next_of r) answer r.reads = c.take_answer.ensures.reads ∙ ap (λ z. reads_after r.formula r.flow.number r.flow.kept.thread (next_of r) z r.reads) same in
    record {
      seat_of = c.load-word.ensures.seat;
      carries = carries_at (with_thread v (after_load v.code v.setup v.from (pending v n) c.args.cell word)) _ 0 _ q c.load-word.ensures.view c.load-word.ensures.marks
          (loads v n r c.requires.carrying.carries q c.take_answer.ensures.same c.requires.settled c.args.cell word answer (subst IsReached c.load-word.ensures.view c.load-word.ensures.reached) c.load-word.type_inv is c.requires.next left kept);
    }
