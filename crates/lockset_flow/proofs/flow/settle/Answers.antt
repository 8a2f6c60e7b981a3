use Rattle.std.proofs.Common.{◌∙◌}
use Rattle.lockset_flow.proofs.Relaxed.{points_trans}
use Rattle.lockset_flow.proofs.flow.settle.Goals as goal

pub loop-more-preserved : goal.loop-more-preserved
loop-more-preserved c = record {
  long = c.in_ok-more.ensures.long ∙ c.loop-more.invariant.long;
  down = points_trans c.round.new.facts c.loop-more.facts c.args.facts.now c.in_ok-more.ensures.long c.in_ok-more.ensures.down c.loop-more.invariant.down;
  above = λ top y s h. c.in_ok-more.ensures.above top y s (c.loop-more.invariant.above top y s h);
  met = λ e. (c.in_ok-more.ensures.met e).1;
  good = λ g. c.in_ok-more.ensures.good (c.loop-more.invariant.good g);
}
