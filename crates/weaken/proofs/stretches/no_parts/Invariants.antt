use Rattle.std.proofs.Common.{◌≡◌, ℕ, ◌<◌, [], length, Some}
use Rattle.std.specs.Prelude.{slice_get}
use Rattle.weaken.specs.Tables.{part_of}
use Rattle.weaken.proofs.stretches.no_parts.Given as goal

abbrev pub invariant-loop-first : goal.invariant-loop-first
invariant-loop-first l = record {
  long : length l.parts.items ≡ l.first;
  each : (k : ℕ) → k < l.first → slice_get l.parts.items k ≡ Some (part_of k []);
}
