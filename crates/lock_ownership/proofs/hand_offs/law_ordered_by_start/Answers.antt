use Rattle.lock_ownership.proofs.HandOrders.{ordered_by_start}
use Rattle.lock_ownership.proofs.hand_offs.law_ordered_by_start.Goals as goal

pub returns : goal.returns
returns c = λ code setup labels t k i a j first second run limits starts at_i of_t lt at_j of_k goes_on.
    ordered_by_start code setup run limits labels t k i a j first second starts at_i of_t lt at_j of_k goes_on
