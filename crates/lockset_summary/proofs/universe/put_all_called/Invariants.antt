use Rattle.std.proofs.Common.{List}
use Rattle.facts.specs.declared.locks.LockPath.{LockPath}
use Rattle.lockset_summary.specs.Rounds.{ForFirst}
use Rattle.lockset_summary.specs.Known.{row_of, IsSeen, Adds}
use Rattle.lockset_summary.proofs.universe.put_all_called.Given as goal

abbrev pub invariant-loop-j : goal.invariant-loop-j
invariant-loop-j l = Adds l.code (ForFirst (List (List LockPath)) LockPath (λ r. row_of r l.g) (λ i p r. IsSeen l.f l.actuals p r) l.j) l.initial.rows.items l.rows.items l.added
