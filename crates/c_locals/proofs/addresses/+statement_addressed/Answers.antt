use Rattle.std.proofs.Common.{arith}
use Rattle.std.proofs.lemmas.Grind.{common_steps}
use Rattle.c_tree.proofs.Views.{parts_of_row-list}
use Rattle.c_locals.proofs.Numbering.{block_numbers, for_numbers}
use Rattle.c_locals.proofs.addresses.+statement_addressed.Goals as goal

pub push_statement-returns-in_ok-push_parts-in-Block-clause-known :
    goal.push_statement-returns-in_ok-push_parts-in-Block-clause-known
push_statement-returns-in_ok-push_parts-in-Block-clause-known t c =
    rw (c.in-Block.is, parts_of_row-list)
    (block_numbers _ _ _ _ _ c.in_ok-open-in-Block.ensures (rw c.as_slice.ensures at c.in_ok-push_parts-in-Block.ensures.known) c.close.ensures)

pub push_statement-returns-in_ok-push_parts-in-Block-clause-out :
    goal.push_statement-returns-in_ok-push_parts-in-Block-clause-out
push_statement-returns-in_ok-push_parts-in-Block-clause-out t c =
    rw (c.in-Block.is, parts_of_row-list) (grind (arith, common_steps))

pub push_statement-returns-in_ok-push_statement-in-For-clause-known :
    goal.push_statement-returns-in_ok-push_statement-in-For-clause-known
push_statement-returns-in_ok-push_statement-in-For-clause-known t c =
    rw c.in-For.is
    (for_numbers _ _ _ _ _ _ _ c.in_ok-open-in-For.ensures c.in_ok-push_for-in-For.ensures.known (rw c.deref-in-For.ensures at c.in_ok-push_statement-in-For.ensures.known) c.close-in-For.ensures)
