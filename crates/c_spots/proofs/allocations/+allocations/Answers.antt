use Rattle.std.proofs.Common.{arith}
use Rattle.std.proofs.lemmas.Grind.{common_steps}
use Rattle.c_tree.proofs.Views.{exps_of_row-list}
use Rattle.c_spots.proofs.allocations.+allocations.Goals as goal

pub push_allocations-returns-in_ok-push_allocations-in-Comma : goal.push_allocations-returns-in_ok-push_allocations-in-Comma
push_allocations-returns-in_ok-push_allocations-in-Comma g t c = rw (c.in-Comma.is, exps_of_row-list) (grind (arith, common_steps))

pub push_allocations-returns-in_ok-push_allocation-in-Call : goal.push_allocations-returns-in_ok-push_allocation-in-Call
push_allocations-returns-in_ok-push_allocation-in-Call g t c = rw (c.in-Call.is, exps_of_row-list) (grind (arith, common_steps))
