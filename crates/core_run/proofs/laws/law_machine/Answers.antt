use Rattle.core_run.proofs.Lawful.{lawful}
use Rattle.core_run.proofs.laws.law_machine.Goals as goal

pub returns : goal.returns
returns c = λ code setup runnable limits. lawful code setup runnable limits
