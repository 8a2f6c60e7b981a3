use Rattle.weak_code.proofs.Running.{runs}
use Rattle.weak_code.proofs.laws.law_weakened_code_runs.Goals as goal

pub returns : goal.returns
returns c = runs
