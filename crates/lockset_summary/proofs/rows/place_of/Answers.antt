use Rattle.std.proofs.Common.{arith, sym, ◌∙◌}
use Rattle.lockset_summary.proofs.Insertion.{below_more, above_more, is_there}
use Rattle.lockset_summary.proofs.rows.place_of.Goals as goal

pub loop-low-preserved-then-guarded_less : goal.loop-low-preserved-then-guarded_less
loop-low-preserved-then-guarded_less c = record {
  order = omega (arith, c.loop-low-test.true);
  within = c.loop-low.invariant.within;
  below = below_more c.args.row.now c.args.access.now c.access_at-standing.result.now _ c.requires c.access_at-standing.ensures (sym c.guarded_less.ensures ∙ c.if-guarded_less.true);
  above = c.loop-low.invariant.above;
}

pub loop-low-preserved : goal.loop-low-preserved
loop-low-preserved c = record {
  order = omega arith;
  within = omega (arith, c.loop-low-test.true, c.loop-low.invariant.within);
  below = c.loop-low.invariant.below;
  above = above_more c.args.row.now c.args.access.now c.access_at-standing.result.now _ c.requires c.access_at-standing.ensures (sym c.guarded_less-else-guarded_less.ensures ∙ c.if-guarded_less-2.true);
}

pub returns-else-guarded_less-2 : goal.returns-else-guarded_less-2
returns-else-guarded_less-2 c = is_there c.args.row.now c.args.access.now c.access_at-standing.result.now _ c.access_at-standing.ensures (sym c.guarded_less.ensures ∙ c.if-guarded_less.false) (sym c.guarded_less-else-guarded_less.ensures ∙ c.if-guarded_less-2.false)

pub returns : goal.returns
returns c = record {
  within = omega (arith, c.loop-low.invariant.order, c.loop-low.invariant.within);
  below = c.loop-low.invariant.below;
  above = λ j b le. c.loop-low.invariant.above j b (omega (arith, c.loop-low-test.false));
}
