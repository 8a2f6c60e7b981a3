use Rattle.points_to.specs.Filling.{Adds}
use Rattle.points_to.proofs.Adding.{MetTo}
use Rattle.points_to.proofs.filling.round.Given as goal

abbrev pub invariant-loop-constraint : goal.invariant-loop-constraint
invariant-loop-constraint l = Adds l.code (MetTo l.code l.constraints l.constraint-index) l.initial.sets l.sets l.added
