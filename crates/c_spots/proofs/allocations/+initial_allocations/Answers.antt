use Rattle.std.proofs.Common.{arith}
use Rattle.std.proofs.lemmas.Grind.{common_steps}
use Rattle.c_tree.proofs.Views.{inits_of_row-list}
use Rattle.c_spots.proofs.allocations.+initial_allocations.Goals as goal

pub push_initial_allocations-returns-in-Braces : goal.push_initial_allocations-returns-in-Braces
push_initial_allocations-returns-in-Braces g t c = rw (c.in-Braces.is, inits_of_row-list) (grind (arith, common_steps))
