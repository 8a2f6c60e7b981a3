use Rattle.std.proofs.Common.{arith}
use Rattle.std.proofs.lemmas.Grind.{common_steps}
use Rattle.c_tree.proofs.Views.{parts_of_row-list}
use Rattle.c_locals.proofs.roots.+with_statement_starts.Goals as goal

pub put_statement_starts-returns-in-Block : goal.put_statement_starts-returns-in-Block
put_statement_starts-returns-in-Block t c = rw (c.in-Block.is, parts_of_row-list) (grind (arith, common_steps))
