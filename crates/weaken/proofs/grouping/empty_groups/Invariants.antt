use Rattle.std.proofs.Common.{◌≡◌, ℕ, [], length}
use Rattle.std.specs.Prelude.{slice_index_or}
use Rattle.weaken.proofs.grouping.empty_groups.Given as goal

abbrev pub invariant-loop-at : goal.invariant-loop-at
invariant-loop-at g l = record {
  long : length l.groups.items ≡ l._at;
  each : (k : ℕ) → slice_index_or l.groups.items k [] ≡ [];
}
