use Rattle.job_laws.proofs.Caused.{statuses_have_causes}
use Rattle.job_laws.proofs.laws.law_statuses_have_causes.Goals as goal

pub returns : goal.returns
returns c = statuses_have_causes
