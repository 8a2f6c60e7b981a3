use Rattle.std.proofs.Common.{◌≡◌, length}
use Rattle.core_run.specs.Shown.{all_ended}
use Rattle.core_run.proofs.finish.have_ended.Given as goal

abbrev pub invariant-loop-rest : goal.invariant-loop-rest
invariant-loop-rest l = record { same : all_ended l.flows ≡ all_ended l.rest }

abbrev pub decreases-loop-rest : goal.decreases-loop-rest
decreases-loop-rest l = length l.rest
