use Rattle.lower_sound.proofs.Valid.{valid}
use Rattle.lower_sound.proofs.laws.law_valid.Goals as goal

pub returns : goal.returns
returns c = valid
