use Rattle.std.proofs.Common.{arith}
use Rattle.std.proofs.lemmas.Grind.{common_steps}
use Rattle.c_tree.proofs.Views.{inits_of_row-list}
use Rattle.c_globals.proofs.globals.+start_words.Goals as goal

pub push_start-returns-in_ok-pad-in-Braces : goal.push_start-returns-in_ok-pad-in-Braces
push_start-returns-in_ok-pad-in-Braces t c = rw (c.in-Braces.is, inits_of_row-list) (grind (arith, common_steps))
