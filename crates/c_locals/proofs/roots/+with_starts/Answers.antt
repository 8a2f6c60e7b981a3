use Rattle.std.proofs.Common.{arith}
use Rattle.std.proofs.lemmas.Grind.{common_steps}
use Rattle.c_tree.proofs.Views.{exps_of_row-list}
use Rattle.c_locals.proofs.roots.+with_starts.Goals as goal

pub put_starts-returns-in_ok-put_starts-in-Comma : goal.put_starts-returns-in_ok-put_starts-in-Comma
put_starts-returns-in_ok-put_starts-in-Comma t c = rw (c.in-Comma.is, exps_of_row-list) (grind (arith, common_steps))

pub put_starts-returns-in_ok-put_started-in-Call : goal.put_starts-returns-in_ok-put_started-in-Call
put_starts-returns-in_ok-put_started-in-Call t c = rw (c.in-Call.is, exps_of_row-list) (grind (arith, common_steps))
