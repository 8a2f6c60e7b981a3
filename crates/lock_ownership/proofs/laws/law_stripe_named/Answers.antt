use Rattle.lock_ownership.proofs.StripeLaws.{named_is, known_is}
use Rattle.lock_ownership.proofs.laws.law_stripe_named.Goals as goal

pub returns-clause-named : goal.returns-clause-named
returns-clause-named c = λ code setup state lock stripe t run limits reached has. named_is code setup run limits state lock stripe t reached has

pub returns-clause-known : goal.returns-clause-known
returns-clause-known c = λ code setup state lock stripe t run limits reached held. known_is code setup run limits state lock stripe t reached held
