use Rattle.std.proofs.Common.{None, length}
use Rattle.snapshots.specs.Conditions.{cells_judged}
use Rattle.snapshot_reader.specs.Misfits.{Judging}
use Rattle.snapshot_reader.proofs.cells.misfit_cell.Given as goal

abbrev pub invariant-loop-rest : goal.invariant-loop-rest
invariant-loop-rest l = Judging (cells_judged l.code l.setup None l.listed) (cells_judged l.code l.setup l.before l.rest) l.first l.line

abbrev pub decreases-loop-rest : goal.decreases-loop-rest
decreases-loop-rest l = length l.rest
