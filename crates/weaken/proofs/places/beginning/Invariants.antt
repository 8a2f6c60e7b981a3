use Rattle.std.proofs.Common.{◌≡◌, ℕ, ◌<◌, [], length, take}
use Rattle.std.specs.Prelude.{slice_index_or}
use Rattle.weak_code.specs.Places as spec
use Rattle.weaken.proofs.places.beginning.Given as goal

abbrev pub invariant-loop-number : goal.invariant-loop-number
invariant-loop-number l = record {
  long : length l.groups.items ≡ l.count;
  each : (k : ℕ) → k < l.count → slice_index_or l.groups.items k [] ≡ spec.beginning (take l.number l.stretches) k;
}
