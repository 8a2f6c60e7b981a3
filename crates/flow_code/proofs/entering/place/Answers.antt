use Rattle.flow_code.proofs.Placing.{placed_step}
use Rattle.flow_code.proofs.entering.place.Goals as goal

pub loop-instr-preserved : goal.loop-instr-preserved
loop-instr-preserved c = placed_step c.args.sites.now c.args.instrs.now c.loop-instr.instr-index c.instr-item.result c.in-Some.into c.in-Some.site c.loop-instr.next c.size_of-size.result c.pointer_at.result c.loop-instr.registers.items c.set_register.new.registers.items _ c.instr-item.is c.loop-instr-test.true c.in-Some.ensures c.size_of-size.ensures c.pointer_at.ensures.value c.set_register.ensures c.loop-instr.invariant
