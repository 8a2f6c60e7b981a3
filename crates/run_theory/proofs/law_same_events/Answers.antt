use Rattle.run_theory.proofs.SameEvents.{same_events}
use Rattle.run_theory.proofs.NthEvents.{moved}
use Rattle.run_theory.proofs.law_same_events.Goals as goal

pub returns : goal.returns
returns g c = λ m start end other_end labels other i t n event law free runs others over others_over same is.
    moved m law labels other start (same_events m law labels other start end other_end free runs others over others_over same) t n event i is
