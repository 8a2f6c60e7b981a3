use Rattle.c_values.proofs.Turns.{commas_go_in_turn}
use Rattle.c_values.proofs.laws.law_commas.Goals as goal

pub returns : goal.returns
returns c = commas_go_in_turn
