use Rattle.std.proofs.Common.{◌≡◌, ℕ, List, Some}
use Rattle.std.specs.Prelude.{slice_get}
use Rattle.flow_code.specs.declared.code.Function.{Function}
use Rattle.facts.specs.declared.locks.LockPath.{LockPath}
use Rattle.lockset_summary.specs.Rounds.{ForFirst}
use Rattle.lockset_summary.specs.Known.{IsAllTold, Adds}
use Rattle.lockset_summary.proofs.universe.round.Given as goal

abbrev pub invariant-loop-k : goal.invariant-loop-k
invariant-loop-k l = Adds l.code (ForFirst (List (List LockPath)) ℕ (λ r. l.order) (λ j f r. (fn : Function) → slice_get l.code.functions f ≡ Some fn → IsAllTold f fn r) l.k) l.initial.rows.items l.rows.items l.added
