use Rattle.facts.specs.declared.constraint.Node.TheVariants.{Cells}
use Rattle.points_to.specs.Nodes.{place_from}
use Rattle.points_to.specs.Filling.{Adds, ForFirst, Holds}
use Rattle.points_to.proofs.filling.store.Given as goal

abbrev pub invariant-loop-k : goal.invariant-loop-k
invariant-loop-k l = Adds l.code (ForFirst l.code l.k l.through (λ o r. Holds l.code l.from (Cells (place_from o)) r)) l.initial.sets l.sets l.added
