use Rattle.std.proofs.Common.{subst}
use Rattle.word_semantics.specs.declared.event.Action.TheVariants as action
use Rattle.shared_cells.specs.Plays.{IsReached}
use Rattle.shared_cells.specs.Seats.{view_of}
use Rattle.shared_cells.specs.Threads.{pending, after_store}
use Rattle.shared_cells.specs.Views.{with_thread}
use Rattle.weak_turns.proofs.Moving.{stores}
use Rattle.weak_turns.proofs.Showing.{carries_at, comes_next, lives_if}
use Rattle.weak_turns.proofs.acts.store.Goals as goal

pub store-requires-clause-next : goal.store-requires-clause-next
store-requires-clause-next c =
    let v = view_of c.args.seat.now in
    let n = c.args.seat.now.marks in
    let r = c.args.run.now in
    let h = c.requires.carrying.carries in
    let a = action.Store c.args.cell c.args.value in
    comes_next v n r h c.requires.settled a (lives_if v n r h a c.requires.next (λ f. cc)) c.requires.next

pub returns-clause-carrying : goal.returns-clause-carrying
returns-clause-carrying c =
    let v = view_of c.args.seat.now in
    let n = c.args.seat.now.marks in
    let r = c.args.run.now in
    let q = c.take_answer.new.self in
    record {
      seat_of = c.store.ensures.seat;
      carries = carries_at (with_thread v (after_store v.code v.setup v.from (pending v n) c.args.cell c.args.value)) _ 0 _ q c.store.ensures.view c.store.ensures.marks
          (stores v n r c.requires.carrying.carries q c.take_answer.ensures.same c.requires.settled c.args.cell c.args.value (subst IsReached c.store.ensures.view c.store.ensures.reached) c.requires.next c.take_answer.ensures.told c.take_answer.ensures.reads);
    }
