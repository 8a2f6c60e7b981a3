use Rattle.std.proofs.Common.{arith}
use Rattle.std.proofs.lemmas.Grind.{common_steps}
use Rattle.c_tree.proofs.Views.{exps_of_row-list}
use Rattle.c_locals.proofs.taken.+with_taken.Goals as goal

pub put_taken-returns-in_ok-put_taken-in-Comma : goal.put_taken-returns-in_ok-put_taken-in-Comma
put_taken-returns-in_ok-put_taken-in-Comma t c = rw (c.in-Comma.is, exps_of_row-list) (grind (arith, common_steps))

pub put_taken-returns-in-Call : goal.put_taken-returns-in-Call
put_taken-returns-in-Call t c = rw (c.in-Call.is, exps_of_row-list) (grind (arith, common_steps))
