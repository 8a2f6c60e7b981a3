use Rattle.std.proofs.lemmas.Result.{err_from_is_err_and}
use Rattle.walk_checkpoints.specs.Telling.{TakesCheckpoint}
use Rattle.job_laws.specs.Checkpoints.{KeepsState}
use Rattle.jobs.proofs.OfLog.{followed_gives, followed_stops, no_fault}
use Rattle.jobs.proofs.checkpoints.keep_state.Goals as goal

pub returns-in_err-found-clause-outcome : goal.returns-in_err-found-clause-outcome
returns-in_err-found-clause-outcome g c =
    let p = err_from_is_err_and c.from_residual.result c.from_residual.ensures.1 in
    rw (p.1, p.2) (followed_stops (g.S.Shelf.files c.args.shelf.now) c.args.source.now c.args.log.now (λ view. KeepsState view c.args.count c.args.name.now) c.in_err-found.field-0.0 c.in_err-found.ensures.found)

pub returns-clause-outcome : goal.returns-clause-outcome
returns-clause-outcome g c =
    let w = c.in_ok-found.found.0 in
    let log = c.in_ok-found.found.1 in
    followed_gives (g.S.Shelf.files c.args.shelf.now) c.args.source.now c.args.log.now (λ view. KeepsState view c.args.count c.args.name.now) w log (TakesCheckpoint w.weak log.setup log.entries c.args.count c.args.name.now)
    c.in_ok-found.ensures.found (λ os o is walks tells. record { found = w; is = is; source = walks; takes = tells }) c.taken_checkpoint.result c.or_stop-told.result c.taken_checkpoint.ensures c.or_stop-told.ensures

pub returns-clause-faults : goal.returns-clause-faults
returns-clause-faults g c = no_fault c.or_stop-told.result c.taken_checkpoint.result _ _ c.in_ok-found.ensures.faults c.or_stop-told.ensures
