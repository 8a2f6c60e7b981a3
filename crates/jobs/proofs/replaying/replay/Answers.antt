use Rattle.std.proofs.Common.{refl}
use Rattle.std.proofs.lemmas.Result.{err_from_is_err_and}
use Rattle.job_laws.specs.Replays.{Replays}
use Rattle.job_runs.proofs.Worked.{all_is_idle}
use Rattle.jobs.proofs.OfLog.{crew_gives, followed_stops}
use Rattle.jobs.proofs.Replayed.{TellsWalk, has_source, has_log, replayed_is_idle, shelf_and_crew}
use Rattle.jobs.proofs.replaying.replay.Goals as goal

pub returns-in_err-found-clause-outcome : goal.returns-in_err-found-clause-outcome
returns-in_err-found-clause-outcome g c =
    let p = err_from_is_err_and c.from_residual.result c.from_residual.ensures.1 in
    rw (p.1, p.2) (followed_stops (g.S.Shelf.files c.args.shelf.now) c.args.source.now c.args.log.now (λ view. Replays _ _ view _) c.in_err-found.field-0.0 c.in_err-found.ensures.found)

pub returns-in_err-found-clause-idle : goal.returns-in_err-found-clause-idle
returns-in_err-found-clause-idle g c = all_is_idle _ _ c.from_residual.result refl

pub returns-clause-outcome : goal.returns-clause-outcome
returns-clause-outcome g c =
    let w = c.in_ok-found.found.0 in
    let log = c.in_ok-found.found.1 in
    crew_gives (g.S.Shelf.files c.args.shelf.now) c.args.source.now c.args.log.now (λ view. Replays _ _ view _) w log (TellsWalk _ _ log _ w) c.in_ok-found.ensures.found
    (λ os o is walks tells. record { found = w; is = is; walk = tells.0; walks = tells.1; source = walks; crew = tells.2; told = tells.3 })
    c.told_walk-told.result _ _ c.told_walk-told.ensures.outcome c.told_walk-told.ensures.faults

pub returns-clause-idle : goal.returns-clause-idle
returns-clause-idle g c = replayed_is_idle _ _ c.in_ok-found.found.1 _ c.in_ok-found.found.0 c.told_walk-told.result _ _ c.told_walk-told.ensures.outcome c.told_walk-told.ensures.faults

pub returns-clause-faults : goal.returns-clause-faults
returns-clause-faults g c = shelf_and_crew c.told_walk-told.result _ _ _ _ c.in_ok-found.ensures.faults c.told_walk-told.ensures.faults

pub returns-clause-runs : goal.returns-clause-runs
returns-clause-runs g c failed =
    let files = g.S.Shelf.files c.args.shelf.now in
    let by = c.in_ok-found.ensures.found in
    (has_source files c.args.source.now c.args.log.now c.in_ok-found.found.0 c.in_ok-found.found.1 by, has_log files c.args.source.now c.args.log.now c.in_ok-found.found.0 c.in_ok-found.found.1 by)

pub returns-clause-crew : goal.returns-clause-crew
returns-clause-crew g c none =
    let files = g.S.Shelf.files c.args.shelf.now in
    let by = c.in_ok-found.ensures.found in
    absurd (none (has_source files c.args.source.now c.args.log.now c.in_ok-found.found.0 c.in_ok-found.found.1 by, has_log files c.args.source.now c.args.log.now c.in_ok-found.found.0 c.in_ok-found.found.1 by))
