use Rattle.std.proofs.Common.{◌≡◌, ◌++◌, length}
use Rattle.run_walk.specs.Remains.{endings_in}
use Rattle.run_walk.proofs.whole.endings_of.Given as goal

abbrev pub invariant-loop-rest : goal.invariant-loop-rest
invariant-loop-rest l = record { same : endings_in l.remains ≡ l.found ++ endings_in l.rest }

abbrev pub decreases-loop-rest : goal.decreases-loop-rest
decreases-loop-rest l = length l.rest
