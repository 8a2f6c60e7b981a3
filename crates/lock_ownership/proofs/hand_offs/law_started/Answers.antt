use Rattle.lock_ownership.proofs.HandOrders.{is_started}
use Rattle.lock_ownership.proofs.hand_offs.law_started.Goals as goal

pub returns : goal.returns
returns c = λ code setup labels j event run limits at ne goes_on. is_started code setup run limits labels j event at ne goes_on
