use Rattle.job_laws.proofs.Unique.{one_outcome}
use Rattle.job_laws.proofs.laws.law_one_outcome.Goals as goal

pub returns : goal.returns
returns c = one_outcome
