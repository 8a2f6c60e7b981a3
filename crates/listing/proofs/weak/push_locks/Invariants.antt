use Rattle.std.proofs.Common.{◌≡◌, ◌++◌, take}
use Rattle.listing.specs.WeakText.{locks_text}
use Rattle.listing.proofs.weak.push_locks.Given as goal

abbrev pub invariant-loop-number : goal.invariant-loop-number
invariant-loop-number l = l.out ≡ l.fn.out ++ locks_text l.code 0 (take l.number l.locks)
