use Rattle.core_run.proofs.WholeRuns.{written_is_merge}
use Rattle.core_run.proofs.laws.law_written_merge.Goals as goal

pub returns : goal.returns
returns c = λ code setup labels end runnable limits runs. written_is_merge code setup runnable limits labels end runs
