use Rattle.std.proofs.Common.{◌≡◌, ◌<◌, ℕ, length}
use Rattle.std.specs.Prelude.{slice_index_or}
use Rattle.weak_lock_facts.specs.Grains.{block_at}
use Rattle.grain_choice.proofs.Firsts.{block_before}
use Rattle.grain_choice.proofs.blocks.firsts_of.Given as goal

abbrev pub invariant-loop-at : goal.invariant-loop-at
invariant-loop-at l = record {
  long : length l.firsts ≡ l.at;
  each : (k : ℕ) → k < l.at → slice_index_or l.firsts k 0 ≡ block_at l.instrs k;
  first : l.first ≡ block_before l.instrs l.at;
}
