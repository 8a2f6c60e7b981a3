use Rattle.std.proofs.Common.{arith, length, []}
use Rattle.race_pairs.specs.Touches.{TouchesRoot}
use Rattle.race_pairs.proofs.Elements.{gets_at}
use Rattle.race_pairs.proofs.Touching.{root_more, roots_all, ends}
use Rattle.race_pairs.proofs.access.touches.Goals as goal

pub loop-root-preserved : goal.loop-root-preserved
loop-root-preserved c = root_more c.args.code.now c.args.points.now c.args.summaries.now c.loop-root.root c.index-summaries-root.result [] c.loop-root.all.items c.touch_root.new.touches.items (gets_at c.args.summaries.now c.loop-root.root c.index-summaries-root.result (omega arith) c.index-summaries-root.is) c.loop-root.invariant c.in_ok-touch_root.ensures

pub returns : goal.returns
returns c = roots_all c.args.code.now c.args.points.now c.args.summaries.now [] c.loop-root.all.items (ends (TouchesRoot c.args.code.now c.args.points.now c.args.summaries.now) c.loop-root.root (length c.args.summaries.now) [] c.loop-root.all.items (omega arith) c.loop-root.invariant)
