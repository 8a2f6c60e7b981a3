use Rattle.core_run.proofs.Reached.{kept}
use Rattle.core_run.proofs.laws.law_kept.Goals as goal

pub returns : goal.returns
returns c = λ code setup state runnable limits reached. kept code setup runnable limits state reached
