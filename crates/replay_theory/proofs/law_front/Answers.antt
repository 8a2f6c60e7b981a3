use Rattle.replay_theory.proofs.Whole.{front_taken}
use Rattle.replay_theory.proofs.law_front.Goals as goal

pub returns : goal.returns
returns g c = λ m start end labels front back law. front_taken m law start end labels front back
