use Rattle.std.proofs.Common.{◌≡◌, ℕ, ◌<◌, [], length, take}
use Rattle.std.specs.Prelude.{slice_index_or}
use Rattle.weak_code.specs.Stretches as spec
use Rattle.weaken.proofs.spans.spans_by_mark.Given as goal

abbrev pub invariant-loop-access : goal.invariant-loop-access
invariant-loop-access l = record {
  long : length l.groups.items ≡ l.count;
  each : (k : ℕ) → k < l.count → slice_index_or l.groups.items k [] ≡ spec.spans_of l.instrs k (take l.access-index l.accesses);
}
