use Rattle.std.proofs.Common.{arith}
use Rattle.std.proofs.lemmas.Grind.{common_steps}
use Rattle.core_tree.proofs.Views.{stmts_of_row-list}
use Rattle.lowering_parts.proofs.counted_loops.+statement_loops.Goals as goal

pub push_statement_loops-returns-in-Block-clause-end : goal.push_statement_loops-returns-in-Block-clause-end
push_statement_loops-returns-in-Block-clause-end t c = rw (c.in-Block.is, stmts_of_row-list) (grind (arith, common_steps))

pub push_statement_loops-returns-in-Block-clause-out : goal.push_statement_loops-returns-in-Block-clause-out
push_statement_loops-returns-in-Block-clause-out t c = rw (c.in-Block.is, stmts_of_row-list) (grind (arith, common_steps))
