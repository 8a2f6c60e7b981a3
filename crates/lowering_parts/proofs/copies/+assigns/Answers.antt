use Rattle.std.proofs.Common.{arith}
use Rattle.std.proofs.lemmas.Grind.{common_steps}
use Rattle.core_tree.proofs.Views.{exps_of_row-list}
use Rattle.lowering_parts.proofs.copies.+assigns.Goals as goal

pub call_assigns-returns-in-Function : goal.call_assigns-returns-in-Function
call_assigns-returns-in-Function t c = rw (c.in-Function.is, exps_of_row-list) (grind (arith, common_steps))

pub call_assigns-returns-in-Library : goal.call_assigns-returns-in-Library
call_assigns-returns-in-Library t c = rw (c.in-Library.is, exps_of_row-list) (grind (arith, common_steps))
