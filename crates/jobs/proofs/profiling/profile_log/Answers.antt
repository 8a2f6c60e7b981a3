use Rattle.walk_profiles.specs.Profiling.{ShowsProfile}
use Rattle.job_laws.specs.Profilings.{ShowsLog}
use Rattle.std.proofs.lemmas.Result.{err_from_is_err_and}
use Rattle.jobs.proofs.OfLog.{followed_gives, followed_stops, no_fault}
use Rattle.jobs.proofs.profiling.profile_log.Goals as goal

pub returns-in_err-found-clause-outcome : goal.returns-in_err-found-clause-outcome
returns-in_err-found-clause-outcome g c =
    let p = err_from_is_err_and c.from_residual.result c.from_residual.ensures.1 in
    rw (p.1, p.2) (followed_stops (g.S.Shelf.files c.args.shelf.now) c.args.source.now c.args.log.now (λ view. ShowsLog view c.args.name.now) c.in_err-found.field-0.0 c.in_err-found.ensures.found)

pub returns-clause-outcome : goal.returns-clause-outcome
returns-clause-outcome g c =
    let w = c.in_ok-found.found.0 in
    let log = c.in_ok-found.found.1 in
    followed_gives (g.S.Shelf.files c.args.shelf.now) c.args.source.now c.args.log.now (λ view. ShowsLog view c.args.name.now) w log (ShowsProfile w.weak log.setup log.entries c.args.name.now)
    c.in_ok-found.ensures.found (λ os o is walks tells. record { found = w; is = is; source = walks; shows = tells }) c.shown.result c.or_stop-told.result c.shown.ensures c.or_stop-told.ensures

pub shown-requires : goal.shown-requires
shown-requires g c =
    let w = c.in_ok-found.found.0 in
    let by = c.in_ok-found.ensures.found in
    c.law_names_are_texts.ensures by.0 by.3.os w by.3.tree by.3.is.is by.3.is.of

pub returns-clause-faults : goal.returns-clause-faults
returns-clause-faults g c = no_fault c.or_stop-told.result _ _ _ c.in_ok-found.ensures.faults c.or_stop-told.ensures
