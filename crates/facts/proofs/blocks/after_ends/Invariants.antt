use Rattle.std.proofs.Common.{◌≡◌, ◌<◌, ℕ, false, length}
use Rattle.std.specs.Prelude.{slice_index_or}
use Rattle.facts.specs.Blocks as spec
use Rattle.facts.proofs.blocks.after_ends.Given as goal

abbrev pub invariant-loop-instr : goal.invariant-loop-instr
invariant-loop-instr l = record {
  long : length l.starts.items ≡ l.instr-index;
  each : (k : ℕ) → k < l.instr-index → slice_index_or l.starts.items k false ≡ spec.follows_end l.instrs k;
  begins : l.begins ≡ spec.follows_end l.instrs l.instr-index;
}
