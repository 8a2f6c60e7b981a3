use Rattle.std.proofs.Common.{arith}
use Rattle.std.proofs.lemmas.Grind.{common_steps}
use Rattle.c_tree.proofs.Views.{formals_of_row-list}
use Rattle.c_names.proofs.ListedParams.{row_params-listed_row}
use Rattle.c_names.proofs.params.listed.Goals as goal

pub returns-in-Listed : goal.returns-in-Listed
returns-in-Listed c = rw (c.in-Listed.is, formals_of_row-list, row_params-listed_row) (grind (arith, common_steps))
