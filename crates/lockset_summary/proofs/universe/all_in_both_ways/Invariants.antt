use Rattle.std.proofs.Common.{◌≡◌, map, take}
use Rattle.lockset_summary.specs.Known as known
use Rattle.lockset_summary.proofs.universe.all_in_both_ways.Given as goal

abbrev pub invariant-loop-row : goal.invariant-loop-row
invariant-loop-row l = l.tops ≡ map known.in_both_ways (take l.row-index l.rows)
