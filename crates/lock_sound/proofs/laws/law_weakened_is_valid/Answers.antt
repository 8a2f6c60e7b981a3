use Rattle.lock_sound.proofs.Running.{weakened_is_valid}
use Rattle.lock_sound.proofs.laws.law_weakened_is_valid.Goals as goal

pub returns : goal.returns
returns c = weakened_is_valid
