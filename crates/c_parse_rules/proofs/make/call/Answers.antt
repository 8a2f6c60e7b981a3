use Rattle.std.proofs.Common.{refl}
use Rattle.c_tree.proofs.Views.{exps_of_row-list}
use Rattle.c_parse_rules.proofs.make.call.Goals as goal

pub returns : goal.returns
returns c = rw exps_of_row-list refl
