use Rattle.std.proofs.Common.{Err, Ok, subst}
use Rattle.std.proofs.lemmas.Result.{err_from_is_err_and}
use Rattle.command_line.specs.declared.answer.Part.TheVariants as part
use Rattle.job_outcomes.specs.Steps.{Finds, IsFile}
use Rattle.jobs.proofs.FromCheckpoint.{from_code_stops, from_read_stops, held_stops}
use Rattle.jobs.proofs.logs.followed_from.Goals as goal

pub returns-in_err-read-clause-found : goal.returns-in_err-read-clause-found
returns-in_err-read-clause-found g c =
    let p = err_from_is_err_and c.from_residual.result c.from_residual.ensures.1 in
    rw (p.1, p.2) (from_read_stops (g.S.Shelf.files c.args.shelf.now) c.args.source.now c.args.log.now c.args.checkpoint.now c.in_err-read.field-0.0 c.in_err-read.ensures.found)

pub returns-in_err-held-clause-found : goal.returns-in_err-held-clause-found
returns-in_err-held-clause-found g c =
    let p = err_from_is_err_and c.from_residual-in_err-held.result c.from_residual-in_err-held.ensures.1 in
    let read = c.in_ok-read.ensures.found in
    rw (p.1, p.2) (held_stops (g.S.Shelf.files c.args.shelf.now) c.args.source.now c.args.log.now c.args.checkpoint.now c.in_ok-read.read.0 read.0 c.in_ok-read.read.1 read.1 c.in_err-held.field-0.0 (subst (λ f. Finds (IsFile f 536870912 part.Checkpoint c.args.checkpoint.now) (Err c.in_err-held.field-0.0)) c.in_ok-read.ensures.files c.in_err-held.ensures.content))

pub returns-in_err-weakened-clause-found : goal.returns-in_err-weakened-clause-found
returns-in_err-weakened-clause-found g c =
    let p = err_from_is_err_and c.from_residual-in_err-weakened.result c.from_residual-in_err-weakened.ensures.1 in
    let read = c.in_ok-read.ensures.found in
    rw (p.1, p.2) (from_code_stops (g.S.Shelf.files c.args.shelf.now) c.args.source.now c.args.log.now c.args.checkpoint.now c.in_ok-read.read.0 read.0 c.in_ok-read.read.1 read.1 c.in_ok-held.held (subst (λ f. IsFile f 536870912 part.Checkpoint c.args.checkpoint.now (Ok c.in_ok-held.held)) c.in_ok-read.ensures.files c.in_ok-held.ensures.content) c.in_err-weakened.field-0.0 c.in_err-weakened.ensures.code)

pub returns-clause-found : goal.returns-clause-found
returns-clause-found g c =
    let read = c.in_ok-read.ensures.found in
    (c.in_ok-read.read.0, read.0, read.1, subst (λ f. IsFile f 536870912 part.Checkpoint c.args.checkpoint.now (Ok c.in_ok-held.held)) c.in_ok-read.ensures.files c.in_ok-held.ensures.content, c.in_ok-weakened.ensures.code)
