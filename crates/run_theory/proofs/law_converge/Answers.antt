use Rattle.run_theory.proofs.Converge.{converge}
use Rattle.run_theory.proofs.law_converge.Goals as goal

pub returns : goal.returns
returns g c = λ m start end other_end labels other law free runs other_runs ended other_ended same.
    converge m law labels other start end other_end free runs other_runs ended other_ended same
