use Rattle.std.proofs.Common.{take}
use Rattle.order_log.proofs.Parts.{Free}
use Rattle.order_log.proofs.part.cut.Given as goal

abbrev pub invariant-loop-end : goal.invariant-loop-end
invariant-loop-end l = Free l.at (take l.end l.bytes)
