use Rattle.call_targets.proofs.Runs.{same_runs}
use Rattle.call_targets.proofs.laws.law_resolved_runs.Goals as goal

pub returns : goal.returns
returns c = same_runs
