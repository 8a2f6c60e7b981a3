use Rattle.frame_sound.proofs.Runs.{ended_at_last}
use Rattle.frame_sound.proofs.laws.law_ended_at_last.Goals as goal

pub returns : goal.returns
returns c = λ code setup state t told valid limits reached at e. ended_at_last code valid setup limits state reached t told at e
