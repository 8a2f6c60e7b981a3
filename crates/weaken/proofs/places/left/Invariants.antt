use Rattle.std.proofs.Common.{◌≡◌, ℕ, [], length, take, Some}
use Rattle.std.specs.Prelude.{slice_get, slice_index_or}
use Rattle.flow_code.specs.declared.act.Instr.{Instr}
use Rattle.weak_code.specs.Places as spec
use Rattle.weaken.proofs.places.left.Given as goal

abbrev pub invariant-loop-number : goal.invariant-loop-number
invariant-loop-number l = record {
  long : length l.groups.items ≡ length l.instrs;
  each : (k : ℕ) (i : Instr) → slice_get l.instrs k ≡ Some i → slice_index_or l.groups.items k [] ≡ spec.left (take l.number l.stretches) k i.act;
}
