use Rattle.std.proofs.Common.{arith}
use Rattle.std.proofs.lemmas.Grind.{common_steps}
use Rattle.c_tree.proofs.Views.{inits_of_row-list}
use Rattle.c_print.proofs.print.+print_initial.Goals as goal

pub print_initial-returns-in_ok-print_initials-in-Braces : goal.print_initial-returns-in_ok-print_initials-in-Braces
print_initial-returns-in_ok-print_initials-in-Braces t c = rw (c.in-Braces.is, inits_of_row-list) (grind (arith, common_steps))
