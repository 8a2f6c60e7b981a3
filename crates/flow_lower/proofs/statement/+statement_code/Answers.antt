use Rattle.std.proofs.Common.{arith}
use Rattle.std.proofs.lemmas.Grind.{common_steps}
use Rattle.core_tree.proofs.Views.{stmts_of_row-list}
use Rattle.flow_lower.proofs.statement.+statement_code.Goals as goal

pub push_statement-returns-in-Block-clause-register : goal.push_statement-returns-in-Block-clause-register
push_statement-returns-in-Block-clause-register t c = rw (c.in-Block.is, stmts_of_row-list) (grind (arith, common_steps))

pub push_statement-returns-in-Block-clause-place : goal.push_statement-returns-in-Block-clause-place
push_statement-returns-in-Block-clause-place t c = rw (c.in-Block.is, stmts_of_row-list) (grind (arith, common_steps))

pub push_statement-returns-in-Block-clause-out : goal.push_statement-returns-in-Block-clause-out
push_statement-returns-in-Block-clause-out t c = rw (c.in-Block.is, stmts_of_row-list) (grind (arith, common_steps))
