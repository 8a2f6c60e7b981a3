use Rattle.std.proofs.Common.{◌≡◌, ◌++◌, take}
use Rattle.weak_code.specs.Stretches as spec
use Rattle.weaken.proofs.stretches.put_accesses.Given as goal

abbrev pub invariant-loop-access : goal.invariant-loop-access
invariant-loop-access l = l.stretches.items ≡ l.initial.stretches.items ++ spec.access_stretches (take l.access-index l.accesses)
