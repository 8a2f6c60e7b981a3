use Rattle.erased_states.proofs.Reached.{plain_state}
use Rattle.erased_states.proofs.laws.law_plain_state.Goals as goal

pub returns : goal.returns
returns c = λ code plain setup state limits valid strips reaches. plain_state code plain setup limits valid strips state reaches
