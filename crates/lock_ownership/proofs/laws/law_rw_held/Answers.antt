use Rattle.lock_ownership.proofs.RwHolders.{held_as_shown}
use Rattle.lock_ownership.proofs.laws.law_rw_held.Goals as goal

pub returns : goal.returns
returns c = λ code setup cell run limits has. held_as_shown code setup run limits cell has
