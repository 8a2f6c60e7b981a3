use Rattle.std.proofs.Common.{◌≡◌, ◌++◌, drop}
use Rattle.weak_code.specs.Weakened as spec
use Rattle.weaken.proofs.writing.weakened_instrs.Given as goal

abbrev pub invariant-loop-at : goal.invariant-loop-at
invariant-loop-at l = l.written ++ spec.blocks l.stretches l.instrs l.at (drop l.at l.instrs) ≡ spec.weakened_instrs l.stretches l.instrs
