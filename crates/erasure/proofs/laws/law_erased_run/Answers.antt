use Rattle.erasure.proofs.Weakens.{weakened_run}
use Rattle.erasure.proofs.laws.law_erased_run.Goals as goal

pub returns : goal.returns
returns c = λ p t vs rs rows setup labels end sound within runs. weakened_run p t vs rs rows sound setup labels end within runs
