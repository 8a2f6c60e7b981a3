use Rattle.std.proofs.Common.{length}
use Rattle.points_to.specs.Nodes.{Has}
use Rattle.points_to.specs.Filling.{Adds, ForFirst}
use Rattle.points_to.proofs.filling.copy.Given as goal

abbrev pub invariant-loop-k : goal.invariant-loop-k
invariant-loop-k l = Adds l.code (ForFirst l.code l.k l.from (λ p r. Has (length l.code.functions) r l.to p)) l.initial.sets l.sets l.added
