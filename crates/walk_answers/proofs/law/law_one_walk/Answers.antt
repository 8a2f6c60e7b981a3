use Rattle.walk_answers.proofs.OneWalk.{one_walk}
use Rattle.walk_answers.proofs.law.law_one_walk.Goals as goal

pub returns : goal.returns
returns c = one_walk
