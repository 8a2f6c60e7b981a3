use Rattle.happens_before.proofs.SameOrder.{same_order}
use Rattle.happens_before.proofs.laws.law_same_order.Goals as goal

pub returns : goal.returns
returns c = same_order
