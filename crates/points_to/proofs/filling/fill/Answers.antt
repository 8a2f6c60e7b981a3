use Rattle.std.proofs.Common.{◌∙◌}
use Rattle.points_to.proofs.filling.fill.Goals as goal

pub loop-more-preserved : goal.loop-more-preserved
loop-more-preserved c = record { wide = c.in_ok-more.ensures.wide ∙ c.loop-more.invariant.wide; fine = c.in_ok-more.ensures.fine c.loop-more.invariant.fine; met = λ e. (c.in_ok-more.ensures.met e).1 }
