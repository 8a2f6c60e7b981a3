use Rattle.frame_sound.proofs.Runs.{stands_now, stands_settled}
use Rattle.frame_sound.proofs.laws.law_stands_at_instruction.Goals as goal

pub returns-clause-now : goal.returns-clause-now
returns-clause-now c = λ code setup state t told valid limits reached at runs. stands_now code valid setup limits state reached t told at runs

pub returns-clause-settled : goal.returns-clause-settled
returns-clause-settled c = λ code setup state t told valid limits reached at runs. stands_settled code valid setup limits state reached t told at runs
