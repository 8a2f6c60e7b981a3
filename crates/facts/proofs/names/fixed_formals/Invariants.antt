use Rattle.std.proofs.Common.{◌≡◌, ◌<◌, ℕ, false, length, take}
use Rattle.std.specs.Prelude.{slice_index_or}
use Rattle.facts.specs.Paths.{is_never_assigned}
use Rattle.facts.proofs.names.fixed_formals.Given as goal

abbrev pub invariant-loop-instr : goal.invariant-loop-instr
invariant-loop-instr l = record {
  long : length l.fixed.items ≡ l.function.formals;
  each : (r : ℕ) → r < l.function.formals → slice_index_or l.fixed.items r false ≡ is_never_assigned (take l.instr-index l.function.instrs) r;
}
