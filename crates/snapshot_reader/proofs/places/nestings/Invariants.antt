use Rattle.std.proofs.Common.{◌≡◌, ℕ, ◌+◌, ◌*◌, ◌≤◌, length}
use Rattle.std.specs.Prelude.{slice_index}
use Rattle.snapshots.specs.Conditions.{nesting_in}
use Rattle.snapshot_reader.specs.Tallies.{AreBelow, IsIn, place}
use Rattle.snapshot_reader.proofs.places.nestings.Given as goal

abbrev pub invariant-loop-rest : goal.invariant-loop-rest
invariant-loop-rest l = record {
  counts : length l.counts.items ≡ 8 * l.locks;
  marks : length l.marks.items ≡ 8 * l.locks;
  each : (p : ℕ × ℕ) → IsIn l.locks p → slice_index l.counts.items (place p) + nesting_in l.rest p ≡ nesting_in l.regions p;
  fresh : AreBelow l.mark l.marks.items;
  few : AreBelow l.mark l.counts.items;
  some : 1 ≤ l.mark;
  numbered : l.mark + length l.rest ≡ length l.regions + 1;
}

abbrev pub decreases-loop-rest : goal.decreases-loop-rest
decreases-loop-rest l = length l.rest
