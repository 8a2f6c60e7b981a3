use Rattle.std.proofs.Common.{◌≡◌, ℕ, ◌<◌, length, take, Some}
use Rattle.std.specs.Prelude.{slice_get}
use Rattle.weaken.specs.Tables.{part_of}
use Rattle.weaken.proofs.stretches.parts_of.Given as goal

abbrev pub invariant-loop-access : goal.invariant-loop-access
invariant-loop-access l = record {
  long : length l.parts.items ≡ l.count;
  each : (k : ℕ) → k < l.count → slice_get l.parts.items k ≡ Some (part_of k (take l.access-index l.accesses));
}
