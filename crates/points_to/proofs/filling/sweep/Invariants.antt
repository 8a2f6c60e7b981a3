use Rattle.points_to.specs.Filling.{Adds, ForFirst, IsSwept}
use Rattle.points_to.proofs.filling.sweep.Given as goal

abbrev pub invariant-loop-k : goal.invariant-loop-k
invariant-loop-k l = Adds l.code (ForFirst l.code l.k l.from (IsSwept l.code l.to l.stride)) l.initial.sets l.sets l.added
