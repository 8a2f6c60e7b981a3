use Rattle.std.proofs.Common.{◌≡◌, ◌++◌, map, take}
use Rattle.order_log.specs.Text.{text_of}
use Rattle.snapshots.specs.Text.{cell_line}
use Rattle.snapshots.proofs.write.push_cell_lines.Given as goal

abbrev pub invariant-loop-cell : goal.invariant-loop-cell
invariant-loop-cell l = l.out ≡ l.fn.out ++ text_of (map cell_line (take l.cell-index l.cells))
