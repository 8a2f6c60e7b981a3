use Rattle.std.proofs.Common.{length}
use Rattle.c_types.proofs.cells.+cells_of_layered.Given as goal

abbrev pub decreases-cells_of_layered : goal.decreases-cells_of_layered
decreases-cells_of_layered l = length l.layers.now
