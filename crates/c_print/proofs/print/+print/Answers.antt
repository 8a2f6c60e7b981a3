use Rattle.std.proofs.Common.{arith}
use Rattle.std.proofs.lemmas.Grind.{common_steps}
use Rattle.c_tree.proofs.Views.{exps_of_row-list}
use Rattle.c_print.proofs.print.+print.Goals as goal

pub print_expr-returns-in_ok-print_expr-in-Comma : goal.print_expr-returns-in_ok-print_expr-in-Comma
print_expr-returns-in_ok-print_expr-in-Comma t c = rw (c.in-Comma.is, exps_of_row-list) (grind (arith, common_steps))

pub print_expr-returns-in-Call : goal.print_expr-returns-in-Call
print_expr-returns-in-Call t c = rw (c.in-Call.is, exps_of_row-list) (grind (arith, common_steps))
