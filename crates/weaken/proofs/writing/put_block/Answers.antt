use Rattle.weaken.proofs.Nexts.{ok_on, here}
use Rattle.weaken.proofs.Blocked.{block_put_by, same_item}
use Rattle.weaken.proofs.writing.put_block.Goals as goal

pub returns : goal.returns
returns c = λ i h. ok_on c.put_weak.result _ _ (λ last. block_put_by c.args.stretches.now c.args.instrs.now c.args.at i c.index-instrs-at.result c.in_ok-act.act c.args.written.now c.put_before.new.written c.put_weak.new.written
    (same_item c.args.instrs.now c.args.at c.index-instrs-at.result i (here c.args.instrs.now c.args.at c.index-instrs-at.result c.requires.at c.index-instrs-at.is) h)
    (c.in_ok-put_before.ensures i h) c.in_ok-act.ensures last) c.put_weak.ensures
