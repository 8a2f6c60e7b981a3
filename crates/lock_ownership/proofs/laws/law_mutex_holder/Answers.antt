use Rattle.lock_ownership.proofs.MutexHolders.{holder_is}
use Rattle.lock_ownership.proofs.laws.law_mutex_holder.Goals as goal

pub returns : goal.returns
returns c = λ code setup cell labels end run limits has e. holder_is code setup run limits cell has labels end e
