use Rattle.std.proofs.Common.{◌≡◌, take}
use Rattle.std.specs.List.{filter_map}
use Rattle.weak_code.specs.Stretches as stretches
use Rattle.weaken.proofs.access.racy_accesses.Given as goal

abbrev pub invariant-loop-row : goal.invariant-loop-row
invariant-loop-row l = l.accesses.items ≡ filter_map (stretches.racy_access l.code l.points l.locked l.ranges) (take l.row-index l.rows)
