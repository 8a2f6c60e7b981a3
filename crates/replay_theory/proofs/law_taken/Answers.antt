use Rattle.replay_theory.proofs.Whole.{taken}
use Rattle.replay_theory.proofs.law_taken.Goals as goal

pub returns : goal.returns
returns g c = λ m start end labels entries law. taken m law start end labels entries
