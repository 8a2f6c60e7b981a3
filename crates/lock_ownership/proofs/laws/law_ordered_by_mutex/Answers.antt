use Rattle.lock_ownership.proofs.LockOrders.{ordered_by_mutex}
use Rattle.lock_ownership.proofs.laws.law_ordered_by_mutex.Goals as goal

pub returns : goal.returns
returns c = ordered_by_mutex
