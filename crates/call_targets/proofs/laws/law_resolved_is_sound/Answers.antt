use Rattle.call_targets.proofs.Sounds.{resolved_sound}
use Rattle.call_targets.proofs.laws.law_resolved_is_sound.Goals as goal

pub returns : goal.returns
returns c = resolved_sound
