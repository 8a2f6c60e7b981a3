use Rattle.constant_sound.proofs.Once.{one_value}
use Rattle.constant_sound.proofs.laws.law_one_value.Goals as goal

pub returns : goal.returns
returns c = one_value
