use Rattle.std.proofs.Common.{◌≡◌, ◌++◌, take}
use Rattle.std.specs.List.{filter_map}
use Rattle.weak_code.specs.Stretches as spec
use Rattle.weaken.proofs.stretches.put_blocks.Given as goal

abbrev pub invariant-loop-access : goal.invariant-loop-access
invariant-loop-access l = l.stretches.items ≡ l.initial.stretches.items ++ filter_map (spec.block_from l.accesses) (take l.access-index l.accesses)
