use Rattle.std.proofs.Common.{arith}
use Rattle.weak_code.specs.Places.{beginning, ending, left}
use Rattle.weaken.proofs.Nexts.{ok_on, here}
use Rattle.weaken.proofs.Blocked.{before_put_by, row_is, same_item}
use Rattle.weaken.proofs.writing.put_before.Goals as goal

pub returns : goal.returns
returns c = λ i h. ok_on c.put_gives-2.result _ _ (λ last. before_put_by c.args._stretches.now c.args.at i c.index-instrs-at.result c.as_slice.result.now c.as_slice-2.result.now c.as_slice-3.result.now c.args.written.now c.put_gives.new.written c.put_takes.new.written c.put_gives-2.new.written
    (same_item c.args.instrs.now c.args.at c.index-instrs-at.result i (here c.args.instrs.now c.args.at c.index-instrs-at.result c.requires.at c.index-instrs-at.is) h)
    (row_is c.args.plan.now.ends.items c.args.at c.index.result.now c.as_slice.result.now (ending c.args._stretches.now c.args.at) c.as_slice.ensures c.index.ensures (omega (arith, c.requires.plan.ends, c.requires.at)) (c.requires.plan.ending c.args.at c.requires.at))
    (row_is c.args.plan.now.begins.items c.args.at c.index-2.result.now c.as_slice-2.result.now (beginning c.args._stretches.now c.args.at) c.as_slice-2.ensures c.index-2.ensures (omega (arith, c.requires.plan.begins, c.requires.at)) (c.requires.plan.beginning c.args.at c.requires.at))
    (row_is c.args.plan.now.left.items c.args.at c.index-3.result.now c.as_slice-3.result.now (left c.args._stretches.now c.args.at i.act) c.as_slice-3.ensures c.index-3.ensures (omega (arith, c.requires.plan.left_long, c.requires.at)) (c.requires.plan.left c.args.at i h))
    c.in_ok-put_gives.ensures c.in_ok-put_takes.ensures last) c.put_gives-2.ensures
