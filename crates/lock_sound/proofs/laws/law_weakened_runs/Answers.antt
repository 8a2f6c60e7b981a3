use Rattle.lock_sound.proofs.Running.{weakened_runs}
use Rattle.lock_sound.proofs.laws.law_weakened_runs.Goals as goal

pub returns : goal.returns
returns c = weakened_runs
