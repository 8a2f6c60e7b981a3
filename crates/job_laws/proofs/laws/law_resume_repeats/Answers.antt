use Rattle.job_laws.proofs.Resumed.{resume_repeats}
use Rattle.job_laws.proofs.laws.law_resume_repeats.Goals as goal

pub returns : goal.returns
returns c = resume_repeats c.law_rest_repeats.ensures
