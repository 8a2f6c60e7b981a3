use Rattle.std.proofs.Common.{◌≡◌, ◌<◌, ℕ, Some, length}
use Rattle.std.specs.Prelude.{slice_get}
use Rattle.snapshots.specs.Snapshots.{with_cells}
use Rattle.checkpoint.proofs.resuming.put_cells.Given as goal

abbrev pub invariant-loop-rest : goal.invariant-loop-rest
invariant-loop-rest l = record {
  within : (k : ℕ) (c : ℕ × ℕ) → slice_get l.rest k ≡ Some c → c.0 < length l.words.items;
  words : with_cells l.rest l.words.items ≡ with_cells l.cells l.fn.words.items;
}

abbrev pub decreases-loop-rest : goal.decreases-loop-rest
decreases-loop-rest l = length l.rest
