use Rattle.std.proofs.Common.{arith}
use Rattle.std.proofs.lemmas.Grind.{common_steps}
use Rattle.c_tree.proofs.Views.{formals_of_row-list}
use Rattle.c_declarations.proofs.param.params_from.Goals as goal

pub returns-else-is_void_alone : goal.returns-else-is_void_alone
returns-else-is_void_alone c = rw formals_of_row-list (grind (arith, common_steps))
