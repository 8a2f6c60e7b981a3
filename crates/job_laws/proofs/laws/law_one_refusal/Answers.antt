use Rattle.job_laws.proofs.Unique.{one_refusal}
use Rattle.job_laws.proofs.laws.law_one_refusal.Goals as goal

pub returns : goal.returns
returns c = one_refusal
