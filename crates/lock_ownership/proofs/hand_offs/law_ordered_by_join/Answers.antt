use Rattle.lock_ownership.proofs.HandOrders.{ordered_by_join}
use Rattle.lock_ownership.proofs.hand_offs.law_ordered_by_join.Goals as goal

pub returns : goal.returns
returns c = λ code setup labels t k i b j first second run limits joins zero_is at_i of_k access lt at_j of_t.
    ordered_by_join code setup run limits labels t k i b j first second joins zero_is at_i of_k access lt at_j of_t
