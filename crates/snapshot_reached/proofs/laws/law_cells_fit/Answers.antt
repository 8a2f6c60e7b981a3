use Rattle.snapshot_reached.proofs.Cells.{cells_fit}
use Rattle.snapshot_reached.proofs.laws.law_cells_fit.Goals as goal

pub returns : goal.returns
returns c = λ code setup at state. cells_fit code setup at state
