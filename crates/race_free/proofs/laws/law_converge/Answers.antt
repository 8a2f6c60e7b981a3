use Rattle.race_free.proofs.Ends.{ends_as_one}
use Rattle.race_free.proofs.laws.law_converge.Goals as goal

pub returns : goal.returns
returns c = ends_as_one
