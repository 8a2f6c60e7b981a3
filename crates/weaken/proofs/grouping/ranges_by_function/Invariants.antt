use Rattle.std.proofs.Common.{◌≡◌, ℕ, ◌<◌, [], length, take}
use Rattle.std.specs.Prelude.{slice_index_or, filter, ◌==◌}
use Rattle.weaken.proofs.grouping.ranges_by_function.Given as goal

abbrev pub invariant-loop-range : goal.invariant-loop-range
invariant-loop-range l = record {
  long : length l.groups.items ≡ l.count;
  each : (k : ℕ) → k < l.count → slice_index_or l.groups.items k [] ≡ filter (λ r. r.function == k) (take l.range-index l.ranges);
}
