use Rattle.std.proofs.Common.{◌<◌, length, sym, ap, subst, ◌∙◌, arith}
use Rattle.std.specs.Vec.Iter.{into_iter_items}
use Rattle.sync_objects.specs.Setup.{SetupView}
use Rattle.flow_code.specs.Settle.{IsRunnable}
use Rattle.flow_code.proofs.Runnable.{valid_runnable}
use Rattle.core_run.specs.Machine.{start_told}
use Rattle.shared_cells.specs.Seats.{view_of}
use Rattle.recorder.proofs.Dealing.{next_seat, deals_more, all_dealt}
use Rattle.recorder.proofs.threads.carriers_of.Goals as goal

pub new-requires-clause-runnable : goal.new-requires-clause-runnable
new-requires-clause-runnable c = subst IsRunnable (sym c.code-code.ensures) (valid_runnable c.args.cells.now.code c.requires.valid)

pub new-requires-clause-thread : goal.new-requires-clause-thread
new-requires-clause-thread c =
    let n = next_seat c.args.cells.now c.args.seats.items _ c.in-Some.seat _ c.requires.seats c.requires.start (sym c.loop-seat.invariant.dealt.rest_is ∙ c.in-Some.ensures.steps.0) in
    subst (λ k. k < c.setup-setup.result.now.slots) (sym c.thread.ensures) (subst (λ (z : SetupView). c.in-Some.seat.thread < z.slots) (sym c.setup-setup.ensures) n.of.within)

pub new-requires-in-loop-seat-clause-seat : goal.new-requires-in-loop-seat-clause-seat
new-requires-in-loop-seat-clause-seat c = (next_seat c.args.cells.now c.args.seats.items _ c.in-Some.seat _ c.requires.seats c.requires.start (sym c.loop-seat.invariant.dealt.rest_is ∙ c.in-Some.ensures.steps.0)).of

pub new-requires-in-loop-seat-clause-view : goal.new-requires-in-loop-seat-clause-view
new-requires-in-loop-seat-clause-view c = (next_seat c.args.cells.now c.args.seats.items _ c.in-Some.seat _ c.requires.seats c.requires.start (sym c.loop-seat.invariant.dealt.rest_is ∙ c.in-Some.ensures.steps.0)).view

pub new-requires-in-loop-seat-clause-reached : goal.new-requires-in-loop-seat-clause-reached
new-requires-in-loop-seat-clause-reached c = (next_seat c.args.cells.now c.args.seats.items _ c.in-Some.seat _ c.requires.seats c.requires.start (sym c.loop-seat.invariant.dealt.rest_is ∙ c.in-Some.ensures.steps.0)).reached

pub new-requires-in-loop-seat-clause-marks : goal.new-requires-in-loop-seat-clause-marks
new-requires-in-loop-seat-clause-marks c = (next_seat c.args.cells.now c.args.seats.items _ c.in-Some.seat _ c.requires.seats c.requires.start (sym c.loop-seat.invariant.dealt.rest_is ∙ c.in-Some.ensures.steps.0)).marks

pub new-requires-in-loop-seat-clause-number : goal.new-requires-in-loop-seat-clause-number
new-requires-in-loop-seat-clause-number c =
    let n = next_seat c.args.cells.now c.args.seats.items _ c.in-Some.seat _ c.requires.seats c.requires.start (sym c.loop-seat.invariant.dealt.rest_is ∙ c.in-Some.ensures.steps.0) in
    c.in_ok-run.ensures.flow.2 ∙ c.thread.ensures ∙ sym n.of.thread_is

pub new-requires-in-loop-seat-clause-told : goal.new-requires-in-loop-seat-clause-told
new-requires-in-loop-seat-clause-told c =
    let n = next_seat c.args.cells.now c.args.seats.items _ c.in-Some.seat _ c.requires.seats c.requires.start (sym c.loop-seat.invariant.dealt.rest_is ∙ c.in-Some.ensures.steps.0) in
    c.in_ok-run.ensures.told
    ∙ ap (λ z. start_told z c.setup-setup.result.now c.thread.result) c.code-code.ensures
    ∙ ap (λ z. start_told c.args.cells.now.code z c.thread.result) c.setup-setup.ensures
    ∙ ap (start_told c.args.cells.now.code c.args.cells.now.setup) (c.thread.ensures ∙ sym n.of.thread_is)

pub loop-seat-preserved : goal.loop-seat-preserved
loop-seat-preserved c =
    let cells = c.args.cells.now in
    let n = next_seat cells c.args.seats.items _ c.in-Some.seat _ c.requires.seats c.requires.start (sym c.loop-seat.invariant.dealt.rest_is ∙ c.in-Some.ensures.steps.0) in
    let made = c.in_ok-new.ensures in
    let items = ap length c.in-Some.ensures.steps.0 in
    let counts = c.in-Some.ensures.steps.1 in
    let long = c.loop-seat.invariant.long in
    record {
      dealt = deals_more cells c.args.budget c.args.seats.items c.loop-seat.carriers.items c.push.new.self.items c.in_ok-new.field-0 c.in-Some.seat _ _ c.loop-seat.invariant.dealt c.in-Some.ensures.steps.0 c.in_ok-push.ensures.items
          (record { cells_are = made.0; thread = ap (λ z. (view_of z).from) made.1 ∙ n.number; budget_is = made.3; fresh = made.4 });
      long = omega (arith, items, counts, long);
    }

pub returns : goal.returns
returns c = all_dealt c.args.cells.now c.args.budget c.args.seats.items c.loop-seat.carriers.items (into_iter_items c.loop-seat.seat-iterator) (sym c.loop-seat.invariant.long ∙ c.in-None.ensures.steps.0) c.requires.seats c.loop-seat.invariant.dealt
