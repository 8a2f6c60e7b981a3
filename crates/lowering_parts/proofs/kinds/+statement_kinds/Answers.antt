use Rattle.std.proofs.Common.{arith}
use Rattle.std.proofs.lemmas.Grind.{common_steps}
use Rattle.core_tree.proofs.Views.{stmts_of_row-list}
use Rattle.lowering_parts.proofs.kinds.+statement_kinds.Goals as goal

pub push_statement_kinds-returns-in-Block : goal.push_statement_kinds-returns-in-Block
push_statement_kinds-returns-in-Block t c = rw (c.in-Block.is, stmts_of_row-list) (grind (arith, common_steps))
