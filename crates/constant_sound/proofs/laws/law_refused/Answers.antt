use Rattle.constant_sound.proofs.Refused.{refused}
use Rattle.constant_sound.proofs.laws.law_refused.Goals as goal

pub returns : goal.returns
returns c = refused
