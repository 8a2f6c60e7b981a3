use Rattle.std.proofs.Common.{[]}
use Rattle.race_pairs.specs.Gains.{Gains, Below}
use Rattle.race_pairs.proofs.Cells.{CellAt}
use Rattle.race_pairs.proofs.meeting.cells_in.Given as goal

abbrev pub invariant-loop-held : goal.invariant-loop-held
invariant-loop-held l = Gains (Below l.held-index (CellAt l.locks l.mode)) [] l.cells.items
