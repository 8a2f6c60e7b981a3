use Rattle.lockset_sound.proofs.ByRows.{guarded_at, listed_at}
use Rattle.lockset_sound.proofs.laws.law_guarded.Goals as goal

pub returns-clause-guarded : goal.returns-clause-guarded
returns-clause-guarded c = guarded_at

pub returns-clause-listed : goal.returns-clause-listed
returns-clause-listed c = listed_at
