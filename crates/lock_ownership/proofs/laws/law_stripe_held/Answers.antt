use Rattle.lock_ownership.proofs.StripeLaws.{held_by_list}
use Rattle.lock_ownership.proofs.laws.law_stripe_held.Goals as goal

pub returns : goal.returns
returns c = λ code setup lock stripe run limits has. held_by_list code setup run limits lock stripe has
