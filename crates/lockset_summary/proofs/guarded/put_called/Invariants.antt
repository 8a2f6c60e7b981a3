use Rattle.std.proofs.Common.{List}
use Rattle.facts.specs.declared.locks.Guarded.{Guarded}
use Rattle.lockset_summary.specs.Rounds.{ForFirst}
use Rattle.lockset_summary.specs.Guarding.{accesses_of, IsSeenAccess, Makes}
use Rattle.lockset_summary.proofs.guarded.put_called.Given as goal

abbrev pub invariant-loop-j : goal.invariant-loop-j
invariant-loop-j l = Makes l.code l.points (ForFirst (List (List Guarded)) Guarded (λ r. accesses_of r l.g) (λ i b r. IsSeenAccess l.f l.actuals l.locks b r) l.j) l.initial.rows.items l.rows.items l.added
