use Rattle.std.proofs.Common.{◌≡◌, drop}
use Rattle.flow_code.specs.Threads.{objects_of, placed}
use Rattle.flow_code.proofs.entering.place.Given as goal

abbrev pub invariant-loop-instr : goal.invariant-loop-instr
invariant-loop-instr l = placed l.sites (objects_of (drop l.instr-index l.instrs)) l.next l.registers.items ≡ placed l.sites (objects_of l.instrs) l.at l.initial.registers.items
