use Rattle.happens_before.proofs.Ordering.{ordered}
use Rattle.happens_before.proofs.laws.law_ordered.Goals as goal

pub returns : goal.returns
returns c = ordered
