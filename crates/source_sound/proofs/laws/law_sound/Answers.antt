use Rattle.source_sound.proofs.Law.{law_sound}
use Rattle.source_sound.proofs.laws.law_sound.Goals as goal

pub returns : goal.returns
returns c = law_sound
