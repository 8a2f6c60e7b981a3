use Rattle.std.proofs.Common.{ℕ, List}
use Rattle.facts.specs.declared.locks.Guarded.{Guarded}
use Rattle.lockset_summary.specs.Rounds.{ForFirst}
use Rattle.lockset_summary.specs.Guarding.{AreAllMetAt, Makes}
use Rattle.lockset_summary.proofs.guarded.round.Given as goal

abbrev pub invariant-loop-k : goal.invariant-loop-k
invariant-loop-k l = Makes l.code l.points (ForFirst (List (List Guarded)) ℕ (λ r. l.order) (λ j f r. AreAllMetAt l.code l.points f r) l.k) l.initial.rows.items l.rows.items l.added
