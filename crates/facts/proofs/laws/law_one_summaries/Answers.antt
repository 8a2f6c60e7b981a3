use Rattle.facts.proofs.Summaries.{one_answer}
use Rattle.facts.proofs.laws.law_one_summaries.Goals as goal

pub returns : goal.returns
returns c = one_answer
