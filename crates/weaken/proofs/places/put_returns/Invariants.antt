use Rattle.std.proofs.Common.{◌≡◌, ℕ, ◌<◌, ◌≤◌, [], ◌∷◌, ◌++◌, length, Some}
use Rattle.std.specs.Prelude.{slice_get, slice_index_or, if◌then◌else◌, ◌&&◌, nat_le, nat_lt}
use Rattle.flow_code.specs.declared.act.Instr.{Instr}
use Rattle.weaken.specs.Tables.{returns}
use Rattle.weaken.proofs.places.put_returns.Given as goal

abbrev pub invariant-loop-at : goal.invariant-loop-at
invariant-loop-at l = record {
  long : length l.groups.items ≡ length l.instrs;
  start : l.stretch.first ≤ l.at;
  late : l.end < l.stretch.first → l.at ≡ l.stretch.first;
  each : (k : ℕ) (i : Instr) → slice_get l.instrs k ≡ Some i → slice_index_or l.groups.items k [] ≡ (if returns i.act && (nat_le l.stretch.first k && nat_lt k l.at) then slice_index_or l.initial.groups.items k [] ++ l.region ∷ [] else slice_index_or l.initial.groups.items k []);
}
