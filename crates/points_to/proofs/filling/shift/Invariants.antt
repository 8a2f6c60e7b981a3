use Rattle.std.proofs.Common.{length}
use Rattle.points_to.specs.Nodes.{Has}
use Rattle.points_to.specs.Filling.{Adds, ForFirst, number_on}
use Rattle.points_to.proofs.filling.shift.Given as goal

abbrev pub invariant-loop-k : goal.invariant-loop-k
invariant-loop-k l = Adds l.code (ForFirst l.code l.k l.from (λ p r. Has (length l.code.functions) r l.to (number_on l.code l.step.by l.step.element l.step.back p))) l.initial.sets l.sets l.added
