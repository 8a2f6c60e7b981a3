use Rattle.std.proofs.Common.{◌≡◌, ◌++◌, length}
use Rattle.run_walk.specs.Remains.{reads_in}
use Rattle.run_walk.proofs.whole.reads_of.Given as goal

abbrev pub invariant-loop-rest : goal.invariant-loop-rest
invariant-loop-rest l = record { same : reads_in l.remains ≡ l.all ++ reads_in l.rest }

abbrev pub decreases-loop-rest : goal.decreases-loop-rest
decreases-loop-rest l = length l.rest
