use Rattle.core_run.proofs.WholeRuns.{merges_walk}
use Rattle.core_run.proofs.laws.law_merges.Goals as goal

pub returns : goal.returns
returns c = λ code setup labels end merged runnable limits free runs ended merges.
    merges_walk code setup runnable limits labels end merged free runs ended merges
