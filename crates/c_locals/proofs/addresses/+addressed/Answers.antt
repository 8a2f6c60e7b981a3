use Rattle.std.proofs.Common.{arith}
use Rattle.std.proofs.lemmas.Grind.{common_steps}
use Rattle.c_tree.proofs.Views.{exps_of_row-list}
use Rattle.c_locals.proofs.addresses.+addressed.Goals as goal

pub push_addressed-returns-in_ok-push_addressed-in-Comma : goal.push_addressed-returns-in_ok-push_addressed-in-Comma
push_addressed-returns-in_ok-push_addressed-in-Comma t c = rw (c.in-Comma.is, exps_of_row-list) (grind (arith, common_steps))

pub push_addressed-returns-in-Call : goal.push_addressed-returns-in-Call
push_addressed-returns-in-Call t c = rw (c.in-Call.is, exps_of_row-list) (grind (arith, common_steps))
