use Rattle.std.proofs.Common.{arith}
use Rattle.std.proofs.lemmas.Grind.{common_steps}
use Rattle.c_tree.proofs.Views.{inits_of_row-list}
use Rattle.c_locals.proofs.roots.+with_initial_starts.Goals as goal

pub put_initial_starts-returns-in-Braces : goal.put_initial_starts-returns-in-Braces
put_initial_starts-returns-in-Braces t c = rw (c.in-Braces.is, inits_of_row-list) (grind (arith, common_steps))
