use Rattle.facts.proofs.Summaries.{one_list}
use Rattle.facts.proofs.laws.law_one_list_of_pairs.Goals as goal

pub returns : goal.returns
returns c = one_list
