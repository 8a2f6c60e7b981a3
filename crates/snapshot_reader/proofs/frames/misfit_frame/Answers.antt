use Rattle.std.specs.Option.{option_copied}
use Rattle.snapshot_reader.proofs.FrameSteps.{next_frame}
use Rattle.snapshot_reader.proofs.frames.misfit_frame.Goals as goal

pub loop-rest-preserved : goal.loop-rest-preserved
loop-rest-preserved c =
    next_frame c.args.code.now c.args.setup.now _ (option_copied c.loop-rest.before) c.loop-rest.rest.now c.frame-item.result c.args.first c.loop-rest.line c.saturating_add-line.result c.frame_fits.result
    c.in-len1-up.len_at_least c.frame-item.is c.loop-rest.invariant c.frame_fits.ensures c.if-not-frame_fits.false c.saturating_add-line.ensures
