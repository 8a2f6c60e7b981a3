use Rattle.snapshot_reader.proofs.LineSteps.{next_cell}
use Rattle.snapshot_reader.proofs.cells.misfit_cell.Goals as goal

pub loop-rest-preserved : goal.loop-rest-preserved
loop-rest-preserved c =
    next_cell c.args.code.now c.args.setup.now _ c.loop-rest.before c.loop-rest.rest.now (0, 0) c.args.first c.loop-rest.line c.saturating_add-line.result c.from.result c.cell_fits.result
    c.in-len1-up.len_at_least c.loop-rest.invariant c.cell_fits.ensures c.if-not-cell_fits.false c.from.ensures c.saturating_add-line.ensures
