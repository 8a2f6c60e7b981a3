use Rattle.std.proofs.Common.{arith}
use Rattle.std.proofs.lemmas.Grind.{common_steps}
use Rattle.c_tree.proofs.Views.{exps_of_row-list}
use Rattle.c_parse_rules.proofs.make.comma.Goals as goal

pub returns : goal.returns
returns c = rw exps_of_row-list (grind (arith, common_steps))
