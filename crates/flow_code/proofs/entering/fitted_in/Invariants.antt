use Rattle.std.proofs.Common.{◌≡◌, drop}
use Rattle.flow_code.specs.Threads.{objects_of, fitted}
use Rattle.flow_code.proofs.entering.fitted_in.Given as goal

abbrev pub invariant-loop-instr : goal.invariant-loop-instr
invariant-loop-instr l = fitted l.sites l.end (objects_of (drop l.instr-index l.instrs)) l.next ≡ fitted l.sites l.end (objects_of l.instrs) l.at
