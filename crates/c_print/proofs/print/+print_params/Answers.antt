use Rattle.std.proofs.Common.{arith}
use Rattle.std.proofs.lemmas.Grind.{common_steps}
use Rattle.c_tree.proofs.Views.{formals_of_row-list}
use Rattle.c_print.proofs.print.+print_params.Goals as goal

pub print_params-returns-in-Listed : goal.print_params-returns-in-Listed
print_params-returns-in-Listed t c = rw (c.in-Listed.is, formals_of_row-list) (grind (arith, common_steps))
