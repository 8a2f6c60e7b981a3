use Rattle.lock_ownership.proofs.LockOrders.{ordered_by_stripe}
use Rattle.lock_ownership.proofs.laws.law_ordered_by_stripe.Goals as goal

pub returns : goal.returns
returns c = ordered_by_stripe
