use Rattle.run_theory.proofs.InTime.{ordered_in_time}
use Rattle.run_theory.proofs.law_order_is_in_time.Goals as goal

pub returns : goal.returns
returns g c = λ m start labels i j law ordered. ordered_in_time m law labels start i j ordered
