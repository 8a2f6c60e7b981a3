use Rattle.race_free.proofs.Ends.{log_walks}
use Rattle.race_free.proofs.laws.law_log.Goals as goal

pub returns : goal.returns
returns c = log_walks
