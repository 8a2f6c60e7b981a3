use Rattle.core_run.proofs.WholeRuns.{ends_converge}
use Rattle.core_run.proofs.laws.law_converge.Goals as goal

pub returns : goal.returns
returns c = λ code setup labels other end other_end runnable limits free runs other_runs ended other_ended same.
    ends_converge code setup runnable limits labels other end other_end free runs other_runs ended other_ended same
