use Rattle.job_profiles.proofs.Kept.{tells_name}
use Rattle.job_profiles.proofs.given.tells_name.Goals as goal

pub returns : goal.returns
returns c = tells_name c.is_name.result c.args.text.now c.is_name.ensures
