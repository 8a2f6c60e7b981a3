use Rattle.std.proofs.Common.{arith}
use Rattle.race_pairs.proofs.Elements.{gets}
use Rattle.race_pairs.proofs.Cells.{cell_more, cells_all}
use Rattle.race_pairs.proofs.meeting.cells_in.Goals as goal

pub loop-held-preserved : goal.loop-held-preserved
loop-held-preserved c = cell_more c.args.locks.now c.args.mode c.loop-held.held-index _ c.loop-held.cells.items c.push_cell.new.cells.items (gets c.args.locks.now c.loop-held.held-index _ (omega arith)) c.loop-held.invariant c.in_ok-push_cell.ensures

pub returns : goal.returns
returns c = cells_all c.args.locks.now c.args.mode c.loop-held.held-index c.loop-held.cells.items (omega arith) c.loop-held.invariant
