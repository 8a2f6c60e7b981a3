use Rattle.race_free.proofs.Meeting.{no_race}
use Rattle.race_free.proofs.laws.law_no_race.Goals as goal

pub returns : goal.returns
returns c = no_race
