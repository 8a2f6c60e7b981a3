use Rattle.run_theory.proofs.SameEvents.{same_events}
use Rattle.run_theory.proofs.NthEvents.{same_order}
use Rattle.run_theory.proofs.law_same_order.Goals as goal

pub returns : goal.returns
returns g c = λ m start end other_end labels other i j t n u k first second law free runs others over others_over same first_is second_is ordered.
    same_order m law labels other start (same_events m law labels other start end other_end free runs others over others_over same) i j t n u k first second ordered first_is second_is
