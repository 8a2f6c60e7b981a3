use Rattle.std.proofs.Common.{◌≡◌, true, take}
use Rattle.flow_code.specs.Regions.{ascend}
use Rattle.weak_lock_facts.specs.declared.grain.Grain.TheVariants as grains
use Rattle.weak_code.specs.Stretches as spec
use Rattle.weaken.proofs.stretches.locks_of_function.Given as goal

abbrev pub invariant-loop-access : goal.invariant-loop-access
invariant-loop-access l = record {
  up : ascend l.locks ≡ true;
  same : l.locks ≡ spec.all_locks (spec.with_grain grains.Function (take l.access-index l.accesses));
}
