use Rattle.std.proofs.Common.{◌≡◌, ◌<◌, ℕ, false, length, take}
use Rattle.std.specs.Prelude.{slice_index_or, ◌||◌}
use Rattle.facts.specs.Blocks as spec
use Rattle.facts.proofs.blocks.block_starts.Given as goal

abbrev pub invariant-loop-instr : goal.invariant-loop-instr
invariant-loop-instr l = record {
  long : length l.starts.items ≡ length l.instrs;
  each : (k : ℕ) → k < length l.instrs → slice_index_or l.starts.items k false ≡ (spec.follows_end l.instrs k || spec.is_target (take l.instr-index l.instrs) k);
}
