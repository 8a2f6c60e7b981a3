use Rattle.std.proofs.Common.{◌≡◌, ◌++◌, length}
use Rattle.core_run.specs.Shown.{endings}
use Rattle.core_run.proofs.finish.endings_of.Given as goal

abbrev pub invariant-loop-rest : goal.invariant-loop-rest
invariant-loop-rest l = record { same : endings l.flows ≡ l.found ++ endings l.rest }

abbrev pub decreases-loop-rest : goal.decreases-loop-rest
decreases-loop-rest l = length l.rest
