use Rattle.std.proofs.Common.{◌≡◌, true, drop}
use Rattle.flow_code.specs.Regions.{ascend}
use Rattle.weak_code.specs.WeakLocks as spec
use Rattle.weaken.proofs.locks.locks_of.Given as goal

abbrev pub invariant-loop-place : goal.invariant-loop-place
invariant-loop-place l = record {
  up : ascend l.found ≡ true;
  same : spec.with_locks l.locked l.found (drop l.place-index l.places) ≡ spec.locks_of l.locked l.places;
}
