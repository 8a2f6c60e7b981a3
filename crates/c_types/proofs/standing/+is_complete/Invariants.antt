use Rattle.std.proofs.Common.{length}
use Rattle.c_types.specs.Shown.{shown_type}
use Rattle.c_types.proofs.standing.+is_complete.Given as goal

abbrev pub decreases-is_complete : goal.decreases-is_complete
decreases-is_complete g l = length (shown_type l.of).layers
