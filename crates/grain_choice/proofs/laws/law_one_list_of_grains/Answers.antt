use Rattle.grain_choice.proofs.Unique.{one_list}
use Rattle.grain_choice.proofs.laws.law_one_list_of_grains.Goals as goal

pub returns : goal.returns
returns c = one_list
