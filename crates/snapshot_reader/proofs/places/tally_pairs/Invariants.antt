use Rattle.std.proofs.Common.{◌≡◌, ℕ, ◌+◌, ◌*◌, ◌≤◌, length}
use Rattle.std.specs.Prelude.{◌==◌, not, slice_index}
use Rattle.snapshots.specs.Conditions.{has_pair}
use Rattle.snapshot_reader.specs.Tallies.{AreBelow, IsIn, one_if, place}
use Rattle.snapshot_reader.proofs.Tallying.{pending}
use Rattle.snapshot_reader.proofs.places.tally_pairs.Given as goal

-- what is counted, and what is still to be counted
abbrev pub invariant-loop-rest : goal.invariant-loop-rest
invariant-loop-rest l = record {
  counts : length l.counts ≡ 8 * l.locks;
  marks : length l.marks ≡ 8 * l.locks;
  each : (p : ℕ × ℕ) → IsIn l.locks p → slice_index l.counts (place p) + pending l.mark l.marks l.rest p ≡ slice_index l.fn.counts (place p) + one_if (has_pair l.pairs p);
  used : AreBelow (l.mark + 1) l.marks;
  few : (k : ℕ) → slice_index l.counts k + one_if (not (slice_index l.marks k == l.mark)) ≤ l.mark;
}

abbrev pub decreases-loop-rest : goal.decreases-loop-rest
decreases-loop-rest l = length l.rest
