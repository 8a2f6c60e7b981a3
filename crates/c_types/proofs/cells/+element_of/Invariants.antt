use Rattle.std.proofs.Common.{length}
use Rattle.c_types.proofs.cells.+element_of.Given as goal

abbrev pub decreases-element_of : goal.decreases-element_of
decreases-element_of l = length l.layers.now
