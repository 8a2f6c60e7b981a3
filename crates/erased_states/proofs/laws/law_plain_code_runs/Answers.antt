use Rattle.erased_states.proofs.Targets.{strip_runs}
use Rattle.erased_states.proofs.laws.law_plain_code_runs.Goals as goal

pub returns : goal.returns
returns c = strip_runs
