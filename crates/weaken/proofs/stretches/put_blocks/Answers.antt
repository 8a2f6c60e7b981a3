use Rattle.std.proofs.Common.{arith}
use Rattle.weak_code.specs.Stretches as spec
use Rattle.weaken.proofs.Nexts.{here}
use Rattle.weaken.proofs.Parts.{map_filter_next}
use Rattle.weaken.proofs.stretches.put_blocks.Goals as goal

pub loop-access-preserved : goal.loop-access-preserved
loop-access-preserved c = map_filter_next (spec.block_from c.args.accesses.now) c.args.accesses.now c.loop-access.access-index c.access-item.result _ _ _ (here c.args.accesses.now c.loop-access.access-index c.access-item.result (omega arith) c.access-item.is) c.loop-access.invariant c.in_ok-put_block.ensures
