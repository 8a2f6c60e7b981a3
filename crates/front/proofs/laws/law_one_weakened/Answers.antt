use Rattle.front.proofs.OneWeakened.{one_weakened}
use Rattle.front.proofs.laws.law_one_weakened.Goals as goal

pub returns : goal.returns
returns c = one_weakened
