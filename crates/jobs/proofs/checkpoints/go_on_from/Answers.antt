use Rattle.std.proofs.Common.{subst}
use Rattle.std.proofs.lemmas.Result.{err_from_is_err_and}
use Rattle.std.specs.Prelude.{IfOk}
use Rattle.walk_checkpoints.specs.Telling.{GoesOn}
use Rattle.job_laws.specs.Checkpoints.{GoesOnFrom}
use Rattle.jobs.proofs.FromCheckpoint.{from_gives, from_stops}
use Rattle.jobs.proofs.OfLog.{no_fault}
use Rattle.jobs.proofs.checkpoints.go_on_from.Goals as goal

pub returns-in_err-found-clause-outcome : goal.returns-in_err-found-clause-outcome
returns-in_err-found-clause-outcome g c =
    let p = err_from_is_err_and c.from_residual.result c.from_residual.ensures.1 in
    rw (p.1, p.2) (from_stops (g.S.Shelf.files c.args.shelf.now) c.args.source.now c.args.log.now c.args.checkpoint.now GoesOnFrom c.in_err-found.field-0.0 c.in_err-found.ensures.found)

pub returns-clause-outcome : goal.returns-clause-outcome
returns-clause-outcome g c =
    let w = c.in_ok-found.found.0 in
    let log = c.in_ok-found.found.1 in
    let held = c.in_ok-found.found.2 in
    from_gives (g.S.Shelf.files c.args.shelf.now) c.args.source.now c.args.log.now c.args.checkpoint.now GoesOnFrom w log held (GoesOn w.weak log.setup log.entries held)
    c.in_ok-found.ensures.found (λ os o is walks tells. record { found = w; is = is; source = walks; goes = tells }) c.told_rest.result c.or_stop-told.result
    (subst (λ bytes. IfOk c.told_rest.result (GoesOn w.weak log.setup log.entries bytes)) c.as_slice.ensures c.told_rest.ensures) c.or_stop-told.ensures

pub returns-clause-faults : goal.returns-clause-faults
returns-clause-faults g c = no_fault c.or_stop-told.result c.told_rest.result _ _ c.in_ok-found.ensures.faults c.or_stop-told.ensures
