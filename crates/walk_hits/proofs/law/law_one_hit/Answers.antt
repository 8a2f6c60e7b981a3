use Rattle.walk_hits.proofs.One.{one_hit}
use Rattle.walk_hits.proofs.law.law_one_hit.Goals as goal

pub returns : goal.returns
returns c = one_hit
