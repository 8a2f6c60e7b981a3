use Rattle.std.proofs.Common.{arith}
use Rattle.std.proofs.lemmas.Grind.{common_steps}
use Rattle.c_tree.proofs.Views.{inits_of_row-list}
use Rattle.c_locals.proofs.taken.+with_initial_taken.Goals as goal

pub put_initial_taken-returns-in-Braces : goal.put_initial_taken-returns-in-Braces
put_initial_taken-returns-in-Braces t c = rw (c.in-Braces.is, inits_of_row-list) (grind (arith, common_steps))
