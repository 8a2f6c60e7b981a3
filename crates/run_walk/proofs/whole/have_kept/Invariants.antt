use Rattle.std.proofs.Common.{length}
use Rattle.run_walk.specs.Remains.{HaveKept}
use Rattle.run_walk.proofs.whole.have_kept.Given as goal

abbrev pub invariant-loop-rest : goal.invariant-loop-rest
invariant-loop-rest l = record { kept : HaveKept l.formula l.rest → HaveKept l.formula l.remains }

abbrev pub decreases-loop-rest : goal.decreases-loop-rest
decreases-loop-rest l = length l.rest
