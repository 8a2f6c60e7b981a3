use Rattle.std.proofs.Common.{◌≡◌, ◌<◌, ℕ, [], length}
use Rattle.std.specs.Prelude.{slice_get, slice_index_or}
use Rattle.flow_code.specs.Threads.{instrs_in}
use Rattle.grain_choice.specs.Tables.{AreFirsts}
use Rattle.grain_choice.proofs.blocks.block_firsts.Given as goal

abbrev pub invariant-loop-function : goal.invariant-loop-function
invariant-loop-function l = record {
  long : length l.firsts ≡ l.function-index;
  each : (f : ℕ) → f < l.function-index → AreFirsts (instrs_in (slice_get l.code.functions f)) (slice_index_or l.firsts f []);
}
