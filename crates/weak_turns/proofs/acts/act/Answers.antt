use Rattle.std.proofs.Common.{refl, sym, subst, ◌∙◌}
use Rattle.word_semantics.specs.declared.event.Action.TheVariants as action
use Rattle.flow_code.specs.Settle.{IsRunnable}
use Rattle.flow_code.proofs.Runnable.{valid_runnable}
use Rattle.shared_cells.specs.Seats.{view_of}
use Rattle.weak_turns.proofs.Acting.{not_quiet, attempt_same}
use Rattle.weak_turns.proofs.Moving.{own_due}
use Rattle.weak_turns.proofs.Showing.{comes_next}
use Rattle.weak_turns.proofs.There.{load_in, store_in, object_in, never_ended}
use Rattle.weak_turns.proofs.acts.act.Goals as goal

pub load-requires-clause-cell : goal.load-requires-clause-cell
load-requires-clause-cell c = load_in c.args.cells.now c.args.seat.now c.args.run.now c.requires.carrying c.requires.valid c.requires.limits c.requires.settled c.requires.open c.requires.constants c.in-Load.cell (sym c.next_action.ensures ∙ c.in-Load.is)

pub store-requires-clause-cell : goal.store-requires-clause-cell
store-requires-clause-cell c = store_in c.args.cells.now c.args.seat.now c.args.run.now c.requires.carrying c.requires.valid c.requires.limits c.requires.settled c.requires.open c.requires.constants c.in-Store.cell c.in-Store.value (sym c.next_action.ensures ∙ c.in-Store.is)

pub operate-came-requires-clause-runnable : goal.operate-came-requires-clause-runnable
operate-came-requires-clause-runnable c = valid_runnable c.args.cells.now.code c.requires.valid

pub operate-came-requires-clause-object : goal.operate-came-requires-clause-object
operate-came-requires-clause-object c = object_in c.args.cells.now c.args.seat.now c.args.run.now c.requires.carrying c.requires.valid c.requires.limits c.requires.settled c.requires.open c.requires.constants c.in-Operate.op c.in-Operate.obj (sym c.next_action.ensures ∙ c.in-Operate.is)

pub tell_want-requires-clause-object : goal.tell_want-requires-clause-object
tell_want-requires-clause-object c = object_in c.args.cells.now c.args.seat.now c.args.run.now c.requires.carrying c.requires.valid c.requires.limits c.requires.settled c.requires.open c.requires.constants c.in-Operate.op c.in-Operate.obj (sym c.next_action.ensures ∙ c.in-Operate.is)

pub returns-in-Load-clause-act : goal.returns-in-Load-clause-act
returns-in-Load-clause-act c =
    let old = c.args.seat.now in
    let a = action.Load c.in-Load.cell in
    (a, comes_next (view_of old) old.marks c.args.run.now c.requires.carrying.carries c.requires.settled a c.requires.open (sym c.next_action.ensures ∙ c.in-Load.is), c.load.ensures.step, refl)

pub returns-in-Store-clause-act : goal.returns-in-Store-clause-act
returns-in-Store-clause-act c =
    let old = c.args.seat.now in
    let a = action.Store c.in-Store.cell c.in-Store.value in
    (a, comes_next (view_of old) old.marks c.args.run.now c.requires.carrying.carries c.requires.settled a c.requires.open (sym c.next_action.ensures ∙ c.in-Store.is), c.store.ensures.step, refl)

pub returns-in-Mark-clause-act : goal.returns-in-Mark-clause-act
returns-in-Mark-clause-act c =
    let old = c.args.seat.now in
    (action.Mark, comes_next (view_of old) old.marks c.args.run.now c.requires.carrying.carries c.requires.settled action.Mark c.requires.open (sym c.next_action.ensures ∙ c.in-Mark.is), c.mark.ensures.step, refl)

pub returns-in-Operate-clause-act : goal.returns-in-Operate-clause-act
returns-in-Operate-clause-act c =
    let old = c.args.seat.now in
    let h = c.requires.carrying in
    let o = c.in-Operate.op in
    let obj = c.in-Operate.obj in
    let own = own_due (view_of old) old.marks c.args.run.now h.carries o obj (subst IsRunnable (sym h.seat_of.code_is) (valid_runnable c.args.cells.now.code c.requires.valid)) c.requires.settled (sym c.next_action.ensures ∙ c.in-Operate.is) in
    (own.0, own.1, attempt_same old c.operate-came.new.seat c.tell_want.new.seat o obj c.operate-came.result c.tell_want.ensures.same c.operate-came.ensures.came, c.note_take.ensures)

pub unreachable-requires : goal.unreachable-requires
unreachable-requires c =
    let old = c.args.seat.now in
    let h = c.requires.carrying in
    not_quiet (view_of old) old.marks c.args.run.now h.carries (subst IsRunnable (sym h.seat_of.code_is) (valid_runnable c.args.cells.now.code c.requires.valid)) c.requires.settled (sym c.next_action.ensures ∙ c.in-Quiet.is)

pub unreachable-requires-in-Ended : goal.unreachable-requires-in-Ended
unreachable-requires-in-Ended c = never_ended c.args.cells.now c.args.seat.now c.args.run.now c.requires.carrying c.requires.valid c.requires.limits c.requires.settled c.requires.open (sym c.next_action.ensures ∙ c.in-Ended.is)
