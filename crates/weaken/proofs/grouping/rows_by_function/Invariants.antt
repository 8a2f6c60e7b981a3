use Rattle.std.proofs.Common.{◌≡◌, ℕ, ◌<◌, [], length, take}
use Rattle.std.specs.Prelude.{slice_index_or, filter, ◌==◌}
use Rattle.weaken.proofs.grouping.rows_by_function.Given as goal

abbrev pub invariant-loop-row : goal.invariant-loop-row
invariant-loop-row l = record {
  long : length l.groups.items ≡ l.count;
  each : (k : ℕ) → k < l.count → slice_index_or l.groups.items k [] ≡ filter (λ g. g.access.function == k) (take l.row-index l.rows);
}
