use Rattle.std.proofs.Common.{◌≡◌, ◌++◌, map, take}
use Rattle.order_log.specs.Text.{text_of}
use Rattle.snapshots.specs.Text.{object_line}
use Rattle.snapshots.proofs.write.push_object_lines.Given as goal

abbrev pub invariant-loop-object : goal.invariant-loop-object
invariant-loop-object l = l.out ≡ l.fn.out ++ text_of (map object_line (take l.object-index l.objects))
