use Rattle.lock_ownership.proofs.RwStates.{exclusive_at}
use Rattle.lock_ownership.proofs.laws.law_rw_exclusive.Goals as goal

pub returns : goal.returns
returns c = λ code setup cell state run limits has reached. exclusive_at code setup run limits cell has state reached
