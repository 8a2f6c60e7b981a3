use Rattle.std.proofs.Common.{refl}
use Rattle.c_tree.proofs.Views.{parts_of_row-list}
use Rattle.c_parser.proofs.compose.block.Goals as goal

pub returns : goal.returns
returns c = rw parts_of_row-list refl
