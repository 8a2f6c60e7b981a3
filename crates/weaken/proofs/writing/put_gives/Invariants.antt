use Rattle.std.proofs.Common.{◌≡◌, ◌≤◌, ◌++◌, length, drop, map}
use Rattle.weak_code.specs.Places as places
use Rattle.weak_code.specs.Weakened as spec
use Rattle.weaken.proofs.writing.put_gives.Given as goal

abbrev pub invariant-loop-left : goal.invariant-loop-left
invariant-loop-left l = record {
  within : l.left ≤ length l.regions;
  same : l.written ≡ l.initial.written ++ map (spec.at_instr l.instr) (places.gives (drop l.left l.regions));
}

abbrev pub decreases-loop-left : goal.decreases-loop-left
decreases-loop-left l = l.left
