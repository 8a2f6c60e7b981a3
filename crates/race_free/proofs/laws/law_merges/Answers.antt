use Rattle.race_free.proofs.Ends.{merges}
use Rattle.race_free.proofs.laws.law_merges.Goals as goal

pub returns : goal.returns
returns c = merges
