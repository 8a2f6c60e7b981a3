use Rattle.std.proofs.Common.{arith}
use Rattle.std.proofs.lemmas.Grind.{common_steps}
use Rattle.c_tree.proofs.Views.{parts_of_row-list}
use Rattle.c_print.proofs.print.+print_stmt.Goals as goal

pub print_stmt-returns-in_ok-print_parts-in-Block : goal.print_stmt-returns-in_ok-print_parts-in-Block
print_stmt-returns-in_ok-print_parts-in-Block t c = rw (c.in-Block.is, parts_of_row-list) (grind (arith, common_steps))
