use Rattle.std.proofs.Common.{◌≡◌, ◌++◌, map, take}
use Rattle.order_log.specs.Text.{text_of}
use Rattle.snapshots.specs.Text.{region_line}
use Rattle.snapshots.proofs.write.push_region_lines.Given as goal

abbrev pub invariant-loop-region : goal.invariant-loop-region
invariant-loop-region l = l.out ≡ l.fn.out ++ text_of (map region_line (take l.region-index l.regions))
