use Rattle.std.proofs.Common.{◌≡◌, take}
use Rattle.weak_code.specs.WeakLocks as spec
use Rattle.weaken.proofs.stripes.locks_for.Given as goal

abbrev pub invariant-loop-number : goal.invariant-loop-number
invariant-loop-number l = l.locks ≡ spec.locks_for l.code l.points l.rows (take l.number l.locked)
