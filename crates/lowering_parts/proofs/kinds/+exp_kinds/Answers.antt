use Rattle.std.proofs.Common.{arith}
use Rattle.std.proofs.lemmas.Grind.{common_steps}
use Rattle.core_tree.proofs.Views.{exps_of_row-list}
use Rattle.lowering_parts.proofs.kinds.+exp_kinds.Goals as goal

pub push_call_kinds-returns-in-Function : goal.push_call_kinds-returns-in-Function
push_call_kinds-returns-in-Function t c = rw (c.in-Function.is, exps_of_row-list) (grind (arith, common_steps, c.push_all_kinds.ensures c.in-Function.at))

pub push_call_kinds-returns-in-Library : goal.push_call_kinds-returns-in-Library
push_call_kinds-returns-in-Library t c = rw (c.in-Library.is, exps_of_row-list) (grind (arith, common_steps, c.push_all_kinds-in-Library.ensures c.in-Library.at))
