use Rattle.std.proofs.Common.{◌≡◌, ◌+◌, ◌++◌, length}
use Rattle.facts.specs.PointsTo as spec
use Rattle.points_to.proofs.globals.push_cells.Given as goal

-- what is pushed and the rest make the whole
abbrev pub invariant-loop-kinds_left : goal.invariant-loop-kinds_left
invariant-loop-kinds_left l = record {
  out : l.out ++ spec.cells_constraints l.site l.element l.offset l.kinds_left l.words_left ≡ l.fn.out ++ spec.cells_constraints l.site l.element 0 l.kinds l.words;
  place : l.offset + length l.kinds_left ≡ length l.kinds;
}

abbrev pub decreases-loop-kinds_left : goal.decreases-loop-kinds_left
decreases-loop-kinds_left l = length l.kinds_left
