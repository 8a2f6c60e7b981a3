use Rattle.std.proofs.Common.{◌+◌, ◌≡◌, false}
use Rattle.std.specs.Prelude.{if◌then◌else◌}
use Rattle.points_to.specs.Ascending.{rooms, widths}
use Rattle.points_to.specs.Nodes.{widths_of}
use Rattle.points_to.specs.Filling.{AreFine, MeetsAll}
use Rattle.points_to.proofs.filling.fill.Given as goal

abbrev pub invariant-loop-more : goal.invariant-loop-more
invariant-loop-more l = record {
  wide : widths l.sets ≡ widths_of l.code;
  fine : AreFine l.code l.sets;
  met : l.more ≡ false → MeetsAll l.code l.sets;
}

abbrev pub decreases-loop-more : goal.decreases-loop-more
decreases-loop-more l = rooms l.sets + (if l.more then 1 else 0)
