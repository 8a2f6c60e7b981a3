use Rattle.walk_profiles.proofs.One.{one_profile}
use Rattle.walk_profiles.proofs.law.law_one_profile.Goals as goal

pub returns : goal.returns
returns c = one_profile
