use Rattle.std.proofs.Common.{arith}
use Rattle.std.proofs.lemmas.Grind.{common_steps}
use Rattle.c_tree.proofs.Views.{parts_of_row-list}
use Rattle.c_locals.proofs.Numbering.{block_numbers, for_numbers}
use Rattle.c_locals.proofs.taken.+with_statement_taken.Goals as goal

pub put_statement_taken-returns-in_ok-put_parts_taken-in-Block-clause-known :
    goal.put_statement_taken-returns-in_ok-put_parts_taken-in-Block-clause-known
put_statement_taken-returns-in_ok-put_parts_taken-in-Block-clause-known t c =
    rw (c.in-Block.is, parts_of_row-list)
    (block_numbers _ _ _ _ _ c.in_ok-open-in-Block.ensures (rw c.as_slice.ensures at c.in_ok-put_parts_taken-in-Block.ensures.known) c.close.ensures)

pub put_statement_taken-returns-in_ok-put_parts_taken-in-Block-clause-names :
    goal.put_statement_taken-returns-in_ok-put_parts_taken-in-Block-clause-names
put_statement_taken-returns-in_ok-put_parts_taken-in-Block-clause-names t c =
    rw (c.in-Block.is, parts_of_row-list) (grind (arith, common_steps))

pub put_statement_taken-returns-in_ok-put_statement_taken-in-For-clause-known :
    goal.put_statement_taken-returns-in_ok-put_statement_taken-in-For-clause-known
put_statement_taken-returns-in_ok-put_statement_taken-in-For-clause-known t c =
    rw c.in-For.is
    (for_numbers _ _ _ _ _ _ _ c.in_ok-open-in-For.ensures c.in_ok-put_for_taken-in-For.ensures.known (rw c.deref-in-For.ensures at c.in_ok-put_statement_taken-in-For.ensures.known) c.close-in-For.ensures)
