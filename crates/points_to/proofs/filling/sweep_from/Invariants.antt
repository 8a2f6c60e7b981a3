use Rattle.std.proofs.Common.{ℕ, ◌<◌, ◌/◌, length}
use Rattle.facts.specs.PointsTo.{place}
use Rattle.points_to.specs.Nodes.{Has, number_of}
use Rattle.points_to.specs.Filling.{Adds}
use Rattle.points_to.proofs.filling.sweep_from.Given as goal

abbrev pub invariant-loop-class : goal.invariant-loop-class
invariant-loop-class l = Adds l.code (λ r. (class : ℕ) → class < l.class → Has (length l.code.functions) r l.to (number_of (place (l.p / 64) class))) l.initial.sets l.sets l.added
