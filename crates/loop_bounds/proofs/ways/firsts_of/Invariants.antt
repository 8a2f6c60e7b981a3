use Rattle.std.proofs.Common.{◌≡◌, ◌<◌, ◌≤◌, ℕ, length, take, drop}
use Rattle.std.specs.Prelude.{nat_lt, slice_index_or}
use Rattle.facts.specs.Blocks.{is_target}
use Rattle.loop_bounds.proofs.ways.firsts_of.Given as goal

abbrev pub invariant-loop-left : goal.invariant-loop-left
invariant-loop-left l = record {
  within : l.left ≤ length l.instrs;
  long : length l.firsts.items ≡ length l.instrs;
  each : (m k : ℕ) → m < length l.instrs → k ≤ length l.instrs → is_target (drop l.left (take k l.instrs)) m ≡ nat_lt (slice_index_or l.firsts.items m 0) k;
}

abbrev pub decreases-loop-left : goal.decreases-loop-left
decreases-loop-left l = l.left
