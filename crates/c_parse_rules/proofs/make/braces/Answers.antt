use Rattle.std.proofs.Common.{refl}
use Rattle.c_tree.proofs.Views.{inits_of_row-list}
use Rattle.c_parse_rules.proofs.make.braces.Goals as goal

pub returns : goal.returns
returns c = rw inits_of_row-list refl
