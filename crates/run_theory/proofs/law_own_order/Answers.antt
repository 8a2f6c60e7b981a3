use Rattle.run_theory.proofs.Converge.{trace_merges}
use Rattle.run_theory.proofs.law_own_order.Goals as goal

pub returns : goal.returns
returns g c = λ m start end labels law runs. trace_merges m law labels start end runs
