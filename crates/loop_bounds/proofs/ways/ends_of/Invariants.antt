use Rattle.std.proofs.Common.{◌≡◌, ◌<◌, ℕ, length, take, drop}
use Rattle.std.specs.Prelude.{nat_lt, slice_index_or}
use Rattle.facts.specs.Blocks.{is_target}
use Rattle.loop_bounds.proofs.ways.ends_of.Given as goal

abbrev pub invariant-loop-at : goal.invariant-loop-at
invariant-loop-at l = record {
  long : length l.ends.items ≡ length l.instrs;
  each : (m k : ℕ) → m < length l.instrs → is_target (drop k (take l.at l.instrs)) m ≡ nat_lt k (slice_index_or l.ends.items m 0);
}
