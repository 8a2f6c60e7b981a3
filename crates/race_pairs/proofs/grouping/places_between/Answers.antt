use Rattle.std.proofs.Common.{arith}
use Rattle.race_pairs.proofs.Parts.{stands_more, stands_ends}
use Rattle.race_pairs.proofs.grouping.places_between.Goals as goal

pub loop-at-preserved : goal.loop-at-preserved
loop-at-preserved c = stands_more c.args.touches.now c.args.from c.loop-at.at _ c.loop-at.all.items c.push.new.self.items (omega arith) (omega arith) c.loop-at.invariant c.in_ok-push.ensures.items

pub returns : goal.returns
returns c = stands_ends c.args.touches.now c.args.from c.loop-at.at c.args.to c.loop-at.all.items (omega arith) c.loop-at.invariant
