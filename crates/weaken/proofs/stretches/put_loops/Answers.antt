use Rattle.std.proofs.Common.{arith}
use Rattle.weaken.proofs.Nexts.{gets_in}
use Rattle.weaken.proofs.Parts.{loops_step}
use Rattle.weaken.proofs.stretches.put_loops.Goals as goal

pub loop-counted-preserved : goal.loop-counted-preserved
loop-counted-preserved c = loops_step c.args.function.now c.args.accesses.now c.loop-counted.counted-index _ c.as_slice-instrs.result.now c.in_ok-spans.spans.items c.index.result.now c.as_slice.result.now c.args.stretches.now.items c.loop-counted.stretches.items c.put_loop.new.stretches.items c.requires.loops (gets_in c.args.function.now.loops c.as_slice-counted-items.result.now c.loop-counted.counted-index _ c.as_slice-counted-items.ensures (omega arith)) c.as_slice-instrs.ensures c.as_slice.ensures c.index.ensures c.in_ok-spans.ensures.each c.in_ok-spans.ensures.len c.loop-counted.invariant c.in_ok-put_loop.ensures
