use Rattle.std.proofs.Common.{◌≡◌, ℕ, ◌*◌, length}
use Rattle.std.specs.Prelude.{◌||◌, ◌==◌, slice_index}
use Rattle.std.specs.List.{AllByRecursion}
use Rattle.snapshots.specs.Conditions.{is_among}
use Rattle.thread_interpreter.specs.declared.part.StripePart.{StripePart}
use Rattle.snapshot_reader.specs.Tallies.{IsIn, one_if, place}
use Rattle.snapshot_reader.proofs.places.listed.Given as goal

abbrev pub invariant-loop-rest : goal.invariant-loop-rest
invariant-loop-rest l = record {
  whole : length l.places.items ≡ 8 * l.locks;
  inside : AllByRecursion (λ (x : StripePart). IsIn l.locks (x.lock, x.stripe)) l.rest;
  each : (p : ℕ × ℕ) → IsIn l.locks p → one_if ((slice_index l.places.items (place p) == 1) || is_among l.rest p) ≡ one_if (is_among l.stripes p);
  low : (k : ℕ) → slice_index l.places.items k ≡ one_if (slice_index l.places.items k == 1);
}

abbrev pub decreases-loop-rest : goal.decreases-loop-rest
decreases-loop-rest l = length l.rest
