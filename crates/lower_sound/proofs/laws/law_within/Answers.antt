use Rattle.lower_sound.proofs.SoundWithin.{sound_within}
use Rattle.lower_sound.proofs.laws.law_within.Goals as goal

pub returns : goal.returns
returns c = sound_within
