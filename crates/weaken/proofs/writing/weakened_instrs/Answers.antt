use Rattle.std.proofs.Common.{arith}
use Rattle.weaken.proofs.Blocked.{blocks_step_in}
use Rattle.weaken.proofs.writing.weakened_instrs.Goals as goal

pub loop-at-preserved : goal.loop-at-preserved
loop-at-preserved c = blocks_step_in c.args.stretches.now c.args.instrs.now c.loop-at.at c.loop-at.written c.put_block.new.written _ (omega arith) c.in_ok-put_block.ensures c.loop-at.invariant
