use Rattle.std.proofs.Common.{◌≡◌, ℕ, Some, length, sym, ap, subst, ◌∙◌, arith}
use Rattle.std.specs.Vec.Iter.{into_iter_items}
use Rattle.replayer.proofs.Gathering.{AreMaking, small_thread, of_cells, view_here, reached_here, marks_here, told_here, own_here, from_here, thread_from, follower_here, makes_more}
use Rattle.sync_objects.specs.Setup.{SetupView}
use Rattle.log_walks.specs.Known.{IsWrongAt}
use Rattle.shared_cells.specs.Seats.{view_of}
use Rattle.shared_cells.specs.declared.seat.Seat.{Seat}
use Rattle.replayer.proofs.Listing.{length-numbered}
use Rattle.replayer.proofs.Lowering.{wrong_at, wrong_inside, lowers_more, have_lowered}
use Rattle.replayer.proofs.replaying.followers.Goals as goal

pub new-requires-clause-thread : goal.new-requires-clause-thread
new-requires-clause-thread c =
    let making = subst (AreMaking c.args.cells.now c.args.entries.now c.args.seats.items c.loop-seat.jobs.items) c.in-Some.ensures.steps.0 c.loop-seat.invariant.2 in
    small_thread c.args.cells.now c.args.code.now c.args.setup.now c.args.entries.now c.args.seats.items c.loop-seat.jobs.items c.in-Some.seat (into_iter_items c.next.new.self) c.requires.code c.requires.setup c.requires.seats c.requires.start making c.thread-thread.result c.thread-thread.ensures

pub own_entries-requires : goal.own_entries-requires
own_entries-requires c =
    let long = ap length (c.as_slice.ensures ∙ c.in_ok-noted.ensures) ∙ length-numbered _ c.args.entries.now in
    let few = c.requires.few in
    omega (arith, long, few)

pub new-requires-in-loop-seat-clause-seat : goal.new-requires-in-loop-seat-clause-seat
new-requires-in-loop-seat-clause-seat c =
    let making = subst (AreMaking c.args.cells.now c.args.entries.now c.args.seats.items c.loop-seat.jobs.items) c.in-Some.ensures.steps.0 c.loop-seat.invariant.2 in
    of_cells c.args.cells.now c.args.code.now c.args.setup.now c.args.entries.now c.args.seats.items c.loop-seat.jobs.items c.in-Some.seat (into_iter_items c.next.new.self) c.requires.code c.requires.setup c.requires.seats c.requires.start making

pub new-requires-in-loop-seat-clause-view : goal.new-requires-in-loop-seat-clause-view
new-requires-in-loop-seat-clause-view c =
    let making = subst (AreMaking c.args.cells.now c.args.entries.now c.args.seats.items c.loop-seat.jobs.items) c.in-Some.ensures.steps.0 c.loop-seat.invariant.2 in
    view_here c.args.cells.now c.args.code.now c.args.setup.now c.args.entries.now c.args.seats.items c.loop-seat.jobs.items c.in-Some.seat (into_iter_items c.next.new.self) c.requires.code c.requires.setup c.requires.seats c.requires.start making

pub new-requires-in-loop-seat-clause-reached : goal.new-requires-in-loop-seat-clause-reached
new-requires-in-loop-seat-clause-reached c =
    let making = subst (AreMaking c.args.cells.now c.args.entries.now c.args.seats.items c.loop-seat.jobs.items) c.in-Some.ensures.steps.0 c.loop-seat.invariant.2 in
    reached_here c.args.cells.now c.args.code.now c.args.setup.now c.args.entries.now c.args.seats.items c.loop-seat.jobs.items c.in-Some.seat (into_iter_items c.next.new.self) c.requires.code c.requires.setup c.requires.seats c.requires.start making

pub new-requires-in-loop-seat-clause-marks : goal.new-requires-in-loop-seat-clause-marks
new-requires-in-loop-seat-clause-marks c =
    let making = subst (AreMaking c.args.cells.now c.args.entries.now c.args.seats.items c.loop-seat.jobs.items) c.in-Some.ensures.steps.0 c.loop-seat.invariant.2 in
    marks_here c.args.cells.now c.args.code.now c.args.setup.now c.args.entries.now c.args.seats.items c.loop-seat.jobs.items c.in-Some.seat (into_iter_items c.next.new.self) c.requires.code c.requires.setup c.requires.seats c.requires.start making

pub new-requires-in-loop-seat-clause-number : goal.new-requires-in-loop-seat-clause-number
new-requires-in-loop-seat-clause-number c =
    let making = subst (AreMaking c.args.cells.now c.args.entries.now c.args.seats.items c.loop-seat.jobs.items) c.in-Some.ensures.steps.0 c.loop-seat.invariant.2 in
    c.in_ok-run.ensures.flow.2 ∙ c.thread-thread.ensures ∙ thread_from c.args.cells.now c.args.code.now c.args.setup.now c.args.entries.now c.args.seats.items c.loop-seat.jobs.items c.in-Some.seat (into_iter_items c.next.new.self) c.requires.code c.requires.setup c.requires.seats c.requires.start making

pub new-requires-in-loop-seat-clause-told : goal.new-requires-in-loop-seat-clause-told
new-requires-in-loop-seat-clause-told c =
    let making = subst (AreMaking c.args.cells.now c.args.entries.now c.args.seats.items c.loop-seat.jobs.items) c.in-Some.ensures.steps.0 c.loop-seat.invariant.2 in
    told_here c.args.cells.now c.args.code.now c.args.setup.now c.args.entries.now c.args.seats.items c.loop-seat.jobs.items c.in-Some.seat (into_iter_items c.next.new.self) c.requires.code c.requires.setup c.requires.seats c.requires.start making c.thread-thread.result c.in_ok-run.run' c.thread-thread.ensures c.in_ok-run.ensures.told

pub new-requires-in-loop-seat-clause-own : goal.new-requires-in-loop-seat-clause-own
new-requires-in-loop-seat-clause-own c =
    let making = subst (AreMaking c.args.cells.now c.args.entries.now c.args.seats.items c.loop-seat.jobs.items) c.in-Some.ensures.steps.0 c.loop-seat.invariant.2 in
    own_here c.args.cells.now c.args.code.now c.args.setup.now c.args.entries.now c.args.seats.items c.loop-seat.jobs.items c.in-Some.seat (into_iter_items c.next.new.self) c.requires.code c.requires.setup c.requires.seats c.requires.start making c.thread-thread.result c.as_slice.result.now c.in_ok-wanted.wanted c.thread-thread.ensures c.in_ok-wanted.ensures.wanted

pub with_known-requires-clause-inside : goal.with_known-requires-clause-inside
with_known-requires-clause-inside c = wrong_inside c.args.setup.now.slots c.args.entries.now c.in_ok-wrong.wrong c.in_ok-wrong.ensures

pub loop-seat-preserved : goal.loop-seat-preserved
loop-seat-preserved c =
    let cells = c.args.cells.now in
    let es = c.args.entries.now in
    let wrong = c.in_ok-wrong.wrong in
    let f = c.with_known.result in
    let making = subst (AreMaking cells es c.args.seats.items c.loop-seat.jobs.items) c.in-Some.ensures.steps.0 c.loop-seat.invariant.2 in
    let known = λ (p : ℕ) (is : f.known ≡ Some p). subst (λ (z : SetupView). IsWrongAt z.slots es p) (sym c.requires.setup) (wrong_at c.args.setup.now.slots es wrong p c.in_ok-wrong.ensures (c.with_known.ensures.known p is)) in
    let made = follower_here cells c.args.code.now c.args.setup.now es c.args.seats.items c.loop-seat.jobs.items c.in-Some.seat (into_iter_items c.next.new.self) c.requires.code c.requires.setup c.requires.seats c.requires.start making c.thread-thread.result c.as_slice.result.now c.in_ok-wanted.wanted f c.thread-thread.ensures (c.as_slice.ensures ∙ c.in_ok-noted.ensures) c.in_ok-wanted.ensures.wanted (c.with_known.ensures.cells ∙ c.new-in-loop-seat.ensures.cells) (c.with_known.ensures.thread ∙ ap (λ (z : Seat). (view_of z).from) c.new-in-loop-seat.ensures.seat) (c.with_known.ensures.wanted ∙ c.new-in-loop-seat.ensures.wanted) known in
    let here = from_here cells c.args.code.now c.args.setup.now es c.args.seats.items c.loop-seat.jobs.items c.in-Some.seat (into_iter_items c.next.new.self) c.requires.code c.requires.setup c.requires.seats c.requires.start making in
    let from = thread_from cells c.args.code.now c.args.setup.now es c.args.seats.items c.loop-seat.jobs.items c.in-Some.seat (into_iter_items c.next.new.self) c.requires.code c.requires.setup c.requires.seats c.requires.start making in (
      tt,
      tt,
      makes_more cells es c.args.seats.items c.loop-seat.jobs.items c.in-Some.seat (into_iter_items c.next.new.self) making c.push.new.self.items f c.in_ok-push.ensures.items made (c.with_known.ensures.turns ∙ c.new-in-loop-seat.ensures.turns),
      lowers_more wrong es c.loop-seat.jobs.items c.push.new.self.items f c.thread-thread.result c.in_ok-push.ensures.items (c.thread-thread.ensures ∙ from ∙ here) c.with_known.ensures.lowers c.loop-seat.invariant.3,
    )

pub returns-clause-known : goal.returns-clause-known
returns-clause-known c = have_lowered c.args.setup.now c.args.entries.now c.in_ok-wrong.wrong c.loop-seat.jobs.items c.in_ok-wrong.ensures c.loop-seat.invariant.3
