use Rattle.std.proofs.Common.{◌≡◌, ℕ, ◌<◌, length}
use Rattle.std.specs.Prelude.{slice_index_or}
use Rattle.weak_code.specs.Places as spec
use Rattle.weaken.proofs.places.places.Given as goal

abbrev pub invariant-loop-at : goal.invariant-loop-at
invariant-loop-at l = record {
  long : length l.places.items ≡ l.at;
  place : l.place ≡ spec.place_of l._stretches l._instrs l.at;
  each : (k : ℕ) → k < l.at → slice_index_or l.places.items k 0 ≡ spec.place_of l._stretches l._instrs k;
}
