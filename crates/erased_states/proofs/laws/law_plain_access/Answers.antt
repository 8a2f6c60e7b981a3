use Rattle.erased_states.proofs.Reached.{plain_access}
use Rattle.erased_states.proofs.laws.law_plain_access.Goals as goal

pub returns : goal.returns
returns c = λ code plain setup state bare t told a limits valid strips reaches is stands access comes. plain_access code plain setup limits valid strips state bare t told a reaches is stands access comes
