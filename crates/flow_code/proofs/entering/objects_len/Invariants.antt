use Rattle.std.proofs.Common.{◌≡◌, ◌+◌, length, drop}
use Rattle.flow_code.specs.Threads.{objects_of}
use Rattle.flow_code.proofs.entering.objects_len.Given as goal

abbrev pub invariant-loop-at : goal.invariant-loop-at
invariant-loop-at l = l.at + length (objects_of (drop l.at l.instrs)) ≡ length (objects_of l.instrs)
