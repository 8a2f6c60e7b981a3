use Rattle.snapshot_reader.proofs.LineSteps.{next_object}
use Rattle.snapshot_reader.proofs.objects.misfit_object.Goals as goal

pub loop-rest-preserved : goal.loop-rest-preserved
loop-rest-preserved c =
    next_object c.args.code.now c.args.setup.now c.args.cells _ c.loop-rest.before c.loop-rest.rest.now _ c.args.first c.loop-rest.line c.saturating_add-line.result c.rank_in.result c.object_fits.result
    c.requires.cells c.in-len1-up.len_at_least c.loop-rest.invariant c.object_fits.ensures c.if-not-object_fits.false c.rank_in.ensures c.saturating_add-line.ensures
