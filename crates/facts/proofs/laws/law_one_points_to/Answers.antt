use Rattle.facts.proofs.Tables.{one_answer}
use Rattle.facts.proofs.laws.law_one_points_to.Goals as goal

pub returns : goal.returns
returns c = one_answer
