use Rattle.lower_sound.proofs.Threads.{follows}
use Rattle.lower_sound.proofs.laws.law_events.Goals as goal

pub returns : goal.returns
returns c = follows
