use Rattle.run_theory.proofs.Numbered.{trace_written}
use Rattle.run_theory.proofs.law_written_merge.Goals as goal

pub returns : goal.returns
returns g c = λ m start end labels law runs fresh. trace_written m law labels start end runs fresh
