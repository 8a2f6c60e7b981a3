use Rattle.std.proofs.Common.{arith, length}
use Rattle.race_pairs.specs.Touches.{TouchesNth}
use Rattle.race_pairs.proofs.Elements.{gets_at}
use Rattle.race_pairs.proofs.Touching.{access_more, accesses_all, ends}
use Rattle.race_pairs.proofs.access.touch_all.Goals as goal

pub loop-index-preserved : goal.loop-index-preserved
loop-index-preserved c = access_more c.args.code.now c.args.points.now c.args.root c.args.guarded.now c.loop-index.index c.index-guarded-index.result c.args.touches.now.items c.loop-index.touches.items c.touch.new.touches.items (gets_at c.args.guarded.now c.loop-index.index c.index-guarded-index.result (omega arith) c.index-guarded-index.is) c.loop-index.invariant c.in_ok-touch.ensures

pub returns : goal.returns
returns c = accesses_all c.args.code.now c.args.points.now c.args.root c.args.guarded.now c.args.touches.now.items c.loop-index.touches.items (ends (TouchesNth c.args.code.now c.args.points.now c.args.root c.args.guarded.now) c.loop-index.index (length c.args.guarded.now) c.args.touches.now.items c.loop-index.touches.items (omega arith) c.loop-index.invariant)
