use Rattle.std.proofs.Common.{◌≡◌, ◌++◌, map, take}
use Rattle.order_log.specs.Text.{text_of}
use Rattle.snapshots.specs.Text.{frame_line}
use Rattle.snapshots.proofs.write.push_frame_lines.Given as goal

abbrev pub invariant-loop-frame : goal.invariant-loop-frame
invariant-loop-frame l = l.out ≡ l.fn.out ++ text_of (map frame_line (take l.frame-index l.frames))
