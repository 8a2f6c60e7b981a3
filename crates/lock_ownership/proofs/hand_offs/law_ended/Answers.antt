use Rattle.lock_ownership.proofs.HandOrders.{has_ended}
use Rattle.lock_ownership.proofs.hand_offs.law_ended.Goals as goal

pub returns : goal.returns
returns c = λ code setup labels k t b run limits joins zero_is. has_ended code setup run limits labels k t b joins zero_is
