use Rattle.std.proofs.Common.{Ok, Err, subst}
use Rattle.std.proofs.lemmas.Result.{err_from_is_err_and}
use Rattle.command_line.specs.declared.answer.Part.TheVariants as part
use Rattle.job_outcomes.specs.Steps.{Finds, IsFile}
use Rattle.job_runs.specs.Logs.{IsLogIn}
use Rattle.jobs.proofs.OfLog.{bytes_stop, log_stops, text_stops}
use Rattle.jobs.proofs.logs.source_and_log.Goals as goal

pub returns-in_err-text-clause-found : goal.returns-in_err-text-clause-found
returns-in_err-text-clause-found g c =
    let p = err_from_is_err_and c.from_residual.result c.from_residual.ensures.1 in
    rw (p.1, p.2) (text_stops (g.S.Shelf.files c.args.shelf.now) c.args.source.now c.args.log.now c.in_err-text.field-0.0 c.in_err-text.ensures.content)

pub returns-in_err-bytes-clause-found : goal.returns-in_err-bytes-clause-found
returns-in_err-bytes-clause-found g c =
    let p = err_from_is_err_and c.from_residual-in_err-bytes.result c.from_residual-in_err-bytes.ensures.1 in
    rw (p.1, p.2) (bytes_stop (g.S.Shelf.files c.args.shelf.now) c.args.source.now c.args.log.now c.in_ok-text.text c.in_ok-text.ensures.content c.in_err-bytes.field-0.0 (subst (λ f. Finds (IsFile f 536870912 part.Log c.args.log.now) (Err c.in_err-bytes.field-0.0)) c.in_ok-text.ensures.files c.in_err-bytes.ensures.content))

pub returns-in_err-log-clause-found : goal.returns-in_err-log-clause-found
returns-in_err-log-clause-found g c =
    let p = err_from_is_err_and c.from_residual-in_err-log.result c.from_residual-in_err-log.ensures.1 in
    rw (p.1, p.2) (log_stops (g.S.Shelf.files c.args.shelf.now) c.args.source.now c.args.log.now c.in_ok-text.text c.in_ok-text.ensures.content c.in_ok-bytes.bytes (subst (λ f. IsFile f 536870912 part.Log c.args.log.now (Ok c.in_ok-bytes.bytes)) c.in_ok-text.ensures.files c.in_ok-bytes.ensures.content) c.in_err-log.field-0.0 (subst (λ b. Finds (IsLogIn b) (Err c.in_err-log.field-0.0)) c.as_slice.ensures c.in_err-log.ensures.log))

pub returns-clause-found : goal.returns-clause-found
returns-clause-found g c =
    (c.in_ok-text.ensures.content, (Ok c.in_ok-bytes.bytes, subst (λ f. IsFile f 536870912 part.Log c.args.log.now (Ok c.in_ok-bytes.bytes)) c.in_ok-text.ensures.files c.in_ok-bytes.ensures.content, subst (λ b. IsLogIn b (Ok c.in_ok-log.log)) c.as_slice.ensures c.in_ok-log.ensures.log))
