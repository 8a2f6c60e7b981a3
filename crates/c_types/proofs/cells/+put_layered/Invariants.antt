use Rattle.std.proofs.Common.{length}
use Rattle.c_types.proofs.cells.+put_layered.Given as goal

abbrev pub decreases-put_layered : goal.decreases-put_layered
decreases-put_layered l = length l.layers.now
