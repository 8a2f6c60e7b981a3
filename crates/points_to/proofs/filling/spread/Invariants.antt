use Rattle.std.proofs.Common.{◌≡◌}
use Rattle.points_to.specs.Ascending.{widths}
use Rattle.points_to.specs.Nodes.{widths_of}
use Rattle.points_to.specs.Filling.{AreFine}
use Rattle.points_to.proofs.filling.spread.Given as goal

abbrev pub invariant-loop-turn : goal.invariant-loop-turn
invariant-loop-turn l = record {
  wide : widths l.sets ≡ widths_of l.code;
  fine : AreFine l.code l.sets;
}
