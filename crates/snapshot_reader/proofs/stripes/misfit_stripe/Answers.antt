use Rattle.snapshot_reader.proofs.FrameSteps.{next_stripe, stripe_misfit}
use Rattle.snapshot_reader.proofs.stripes.misfit_stripe.Goals as goal

pub loop-rest-preserved : goal.loop-rest-preserved
loop-rest-preserved c = λ s regions counts.
    next_stripe c.args.code.now s regions _ c.loop-rest.before c.loop-rest.rest.now _ c.args.first c.loop-rest.line c.saturating_add-line.result c.place_of.result c.stripe_fits.result
    c.in-len1-up.len_at_least (c.loop-rest.invariant s regions counts) (c.stripe_fits.ensures s regions counts) c.if-not-stripe_fits.false c.place_of.ensures c.saturating_add-line.ensures

pub returns-then-not-stripe_fits : goal.returns-then-not-stripe_fits
returns-then-not-stripe_fits c = λ s regions counts.
    stripe_misfit c.args.code.now s regions _ c.loop-rest.before c.loop-rest.rest.now _ c.args.first c.loop-rest.line c.stripe_fits.result
    c.in-len1-up.len_at_least (c.loop-rest.invariant s regions counts) (c.stripe_fits.ensures s regions counts) c.if-not-stripe_fits.true
