use Rattle.job_laws.proofs.Repeated.{replay_repeats}
use Rattle.job_laws.proofs.laws.law_replay_repeats.Goals as goal

pub returns : goal.returns
returns c = replay_repeats
