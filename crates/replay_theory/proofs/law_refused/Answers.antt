use Rattle.replay_theory.proofs.Whole.{refused}
use Rattle.replay_theory.proofs.law_refused.Goals as goal

pub returns : goal.returns
returns g c = λ m floor start end labels front back e th law. refused m law floor start end labels front back e th
