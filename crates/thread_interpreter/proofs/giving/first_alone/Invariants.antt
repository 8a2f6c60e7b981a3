use Rattle.std.proofs.Common.{◌≡◌, length}
use Rattle.flow_code.specs.Holding.{first_alone}
use Rattle.thread_interpreter.proofs.giving.first_alone.Given as goal

abbrev pub invariant-loop-rest : goal.invariant-loop-rest
invariant-loop-rest l = first_alone l.regions l.rest ≡ first_alone l.regions l.pairs

abbrev pub decreases-loop-rest : goal.decreases-loop-rest
decreases-loop-rest l = length l.rest
