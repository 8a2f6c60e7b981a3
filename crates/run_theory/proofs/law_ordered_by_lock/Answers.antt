use Rattle.run_theory.proofs.Locked.{ordered_by_lock}
use Rattle.run_theory.proofs.law_ordered_by_lock.Goals as goal

pub returns : goal.returns
returns g c = λ m start before after labels i j first second lock holds first_mode second_mode law held apart lt first_is second_is access differ before_is after_is first_held second_held.
    ordered_by_lock m law lock holds start held first_mode second_mode apart labels i j first second before after lt first_is second_is differ access before_is after_is first_held second_held
