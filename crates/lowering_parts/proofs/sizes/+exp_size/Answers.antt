use Rattle.std.proofs.Common.{arith}
use Rattle.std.proofs.lemmas.Grind.{common_steps}
use Rattle.core_tree.proofs.Views.{exps_of_row-list}
use Rattle.lowering_parts.proofs.sizes.+exp_size.Goals as goal

pub call_size-returns-in_ok-values_size-in-Function : goal.call_size-returns-in_ok-values_size-in-Function
call_size-returns-in_ok-values_size-in-Function t c = rw (c.in-Function.is, exps_of_row-list) (grind (arith, common_steps))

pub call_size-returns-in_ok-values_size-in-Library : goal.call_size-returns-in_ok-values_size-in-Library
call_size-returns-in_ok-values_size-in-Library t c = rw (c.in-Library.is, exps_of_row-list) (grind (arith, common_steps))
