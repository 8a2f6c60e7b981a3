use Rattle.lock_ownership.proofs.LockOrders.{ordered_by_rwlock}
use Rattle.lock_ownership.proofs.laws.law_ordered_by_rwlock.Goals as goal

pub returns : goal.returns
returns c = ordered_by_rwlock
