use Rattle.std.proofs.Common.{length}
use Rattle.c_types.specs.Shown.{shown_type}
use Rattle.c_types.proofs.type_ref.+have_same_layers.Given as goal

abbrev pub decreases-have_same_layers : goal.decreases-have_same_layers
decreases-have_same_layers l = length (shown_type l.a).layers
