use Rattle.std.proofs.lemmas.Result.{err_from_is_err_and}
use Rattle.jobs.proofs.OfLog.{code_stops, read_stops}
use Rattle.jobs.proofs.logs.followed.Goals as goal

pub returns-in_err-read-clause-found : goal.returns-in_err-read-clause-found
returns-in_err-read-clause-found g c =
    let p = err_from_is_err_and c.from_residual.result c.from_residual.ensures.1 in
    rw (p.1, p.2) (read_stops (g.S.Shelf.files c.args.shelf.now) c.args.source.now c.args.log.now c.in_err-read.field-0.0 c.in_err-read.ensures.found)

pub returns-in_err-weakened-clause-found : goal.returns-in_err-weakened-clause-found
returns-in_err-weakened-clause-found g c =
    let p = err_from_is_err_and c.from_residual-in_err-weakened.result c.from_residual-in_err-weakened.ensures.1 in
    let read = c.in_ok-read.ensures.found in
    rw (p.1, p.2) (code_stops (g.S.Shelf.files c.args.shelf.now) c.args.source.now c.args.log.now c.in_ok-read.read.0 read.0 c.in_ok-read.read.1 read.1 c.in_err-weakened.field-0.0 c.in_err-weakened.ensures.code)

pub returns-clause-found : goal.returns-clause-found
returns-clause-found g c =
    let read = c.in_ok-read.ensures.found in
    (c.in_ok-read.read.0, read.0, read.1, c.in_ok-weakened.ensures.code)
