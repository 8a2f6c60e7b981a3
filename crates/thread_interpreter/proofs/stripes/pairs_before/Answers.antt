use Rattle.std.proofs.Common.{arith}
use Rattle.flow_code.specs.Stripes.{wants_number}
use Rattle.thread_interpreter.proofs.PairSteps.{pairs_step}
use Rattle.thread_interpreter.proofs.stripes.pairs_before.Goals as goal

pub loop-number-preserved : goal.loop-number-preserved
loop-number-preserved c = record {
  items = pairs_step (wants_number c.args.code.now c.args.registers.now c.args.region.now) c.loop-number.pairs.items _ c.args.taken.now c.wants_number-wanted.result c.loop-number.number c.args.from c.args.to c.loop-number-test.true c.wants_number-wanted.ensures c.push_if.ensures.items c.loop-number.invariant.items;
  room = omega (arith, c.push_if.ensures.len, c.push_if.ensures.capacity, c.loop-number.invariant.room, c.loop-number-test.true);
}
