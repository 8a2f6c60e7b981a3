use Rattle.std.proofs.Common.{◌≡◌, ◌++◌, length}
use Rattle.weak_code.specs.WeakLocks as spec
use Rattle.weaken.proofs.locks.places_in.Given as goal

abbrev pub invariant-loop-rest : goal.invariant-loop-rest
invariant-loop-rest l = l.places ++ spec.places_in l.rest ≡ spec.places_in l.pairs

abbrev pub decreases-loop-rest : goal.decreases-loop-rest
decreases-loop-rest l = length l.rest
