use Rattle.std.proofs.Common.{◌≡◌, true, length, sym, subst}
use Rattle.flow_code.specs.Constants.{constants_fit}
use Rattle.flow_code.specs.Settle.{IsRunnable}
use Rattle.flow_code.specs.Valid.{is_valid}
use Rattle.flow_code.proofs.Runnable.{valid_runnable}
use Rattle.sync_objects.specs.Setup.{IsWithinLimits}
use Rattle.shared_cells.specs.Seats.{AreAtStart}
use Rattle.recorder.specs.Finished.{IsFinished}
use Rattle.recorder.proofs.Finishing.{seats_are, finished, rose_enough}
use Rattle.recorder.proofs.threads.record_threads.Goals as goal

pub new-requires : goal.new-requires
new-requires g c = record { runnable = valid_runnable c.args.code.now c.requires.valid }

pub carriers_of-requires-clause-valid : goal.carriers_of-requires-clause-valid
carriers_of-requires-clause-valid g c = subst (λ z. is_valid z ≡ true) (sym c.in-Ok.ensures.code) c.requires.valid

pub carriers_of-requires-clause-constants : goal.carriers_of-requires-clause-constants
carriers_of-requires-clause-constants g c = subst (λ z. constants_fit z ≡ true) (sym c.in-Ok.ensures.code) c.requires.constants

pub carriers_of-requires-clause-limits : goal.carriers_of-requires-clause-limits
carriers_of-requires-clause-limits g c = subst IsWithinLimits (sym c.in-Ok.ensures.setup) c.slots.ensures.within

pub carriers_of-requires-clause-start : goal.carriers_of-requires-clause-start
carriers_of-requires-clause-start g c =
    let made = c.in-Ok.made in
    subst (λ z. AreAtStart z made.0.setup made.1.items) (sym c.in-Ok.ensures.code) (subst (λ z. AreAtStart c.args.code.now z made.1.items) (sym c.in-Ok.ensures.setup) c.in-Ok.ensures.start)

pub close-requires : goal.close-requires
close-requires g c =
    let parts = c.in-Ok-parts_of.parts in
    seats_are _ c.in-Ok.made.0 c.in-Ok-carriers_of.carriers.items c.in-Ok-run.carriers.items c.in-Ok-run.ensures.finished (λ x y f. f.leads) parts.seats.items parts.lists parts.remains.items c.args.budget c.in-Ok-carriers_of.ensures c.in-Ok-parts_of.ensures

pub log_of-requires-clause-runnable : goal.log_of-requires-clause-runnable
log_of-requires-clause-runnable g c = valid_runnable c.args.code.now c.requires.valid

pub log_of-requires-clause-finished : goal.log_of-requires-clause-finished
log_of-requires-clause-finished g c =
    let cells = c.in-Ok.made.0 in
    let parts = c.in-Ok-parts_of.parts in
    let closed = c.in-Ok-close.closed in
    subst (IsFinished c.args.code.now c.args.setup.now parts.lists) (sym c.deref.ensures.value)
    (subst (λ z. IsFinished z c.args.setup.now parts.lists parts.remains.items) c.in-Ok.ensures.code
    (subst (λ z. IsFinished cells.code z parts.lists parts.remains.items) c.in-Ok.ensures.setup
    (finished _ cells c.in-Ok-carriers_of.carriers.items c.in-Ok-run.carriers.items c.in-Ok-run.ensures.finished (λ x y f. f.leads) parts.seats.items parts.lists parts.remains.items c.args.budget c.in-Ok-carriers_of.ensures c.in-Ok-parts_of.ensures closed.words.items closed.departure
    (subst IsRunnable (sym c.in-Ok.ensures.code) (valid_runnable c.args.code.now c.requires.valid)) (subst IsWithinLimits (sym c.in-Ok.ensures.setup) c.slots.ensures.within) c.in-Ok-close.ensures)))

pub returns-in-Ok-log_of-clause-turns : goal.returns-in-Ok-log_of-clause-turns
returns-in-Ok-log_of-clause-turns g c =
    let parts = c.in-Ok-parts_of.parts in
    rose_enough _ c.in-Ok.made.0 c.in-Ok-carriers_of.carriers.items c.in-Ok-run.carriers.items c.in-Ok-run.ensures.finished parts.seats.items parts.lists parts.remains.items c.args.budget c.in-Ok-carriers_of.ensures c.in-Ok-parts_of.ensures
    (length c.in-Ok-log_of.recorded.entries) _ _ c.in-Ok-log_of.ensures.entries c.in-Ok-run.ensures.turns
