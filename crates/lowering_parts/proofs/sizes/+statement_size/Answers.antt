use Rattle.std.proofs.Common.{arith}
use Rattle.std.proofs.lemmas.Grind.{common_steps}
use Rattle.core_tree.proofs.Views.{stmts_of_row-list}
use Rattle.lowering_parts.proofs.sizes.+statement_size.Goals as goal

pub statement_size-returns-in-Block : goal.statement_size-returns-in-Block
statement_size-returns-in-Block t c = rw (c.in-Block.is, stmts_of_row-list) (grind (arith, common_steps))
