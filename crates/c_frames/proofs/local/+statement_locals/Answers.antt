use Rattle.std.proofs.Common.{arith}
use Rattle.std.proofs.lemmas.Grind.{common_steps}
use Rattle.c_tree.proofs.Views.{parts_of_row-list}
use Rattle.c_frames.proofs.local.+statement_locals.Goals as goal

pub push_statement_locals-returns-in-Block : goal.push_statement_locals-returns-in-Block
push_statement_locals-returns-in-Block t c = rw (c.in-Block.is, parts_of_row-list) (grind (arith, common_steps))
