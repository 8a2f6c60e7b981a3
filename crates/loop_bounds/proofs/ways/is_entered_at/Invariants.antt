use Rattle.std.proofs.Common.{◌≡◌, ◌<◌, ◌≤◌, ◌+◌, ℕ, false, take, drop}
use Rattle.facts.specs.Blocks.{is_target}
use Rattle.loop_bounds.proofs.ways.is_entered_at.Given as goal

abbrev pub invariant-loop-target : goal.invariant-loop-target
invariant-loop-target l = record {
  within : l.target ≤ l.to;
  apart : (t : ℕ) → l.target < t → t ≤ l.to → (is_target (take l.from l.instrs) t ≡ false) × (is_target (drop (l.to + 1) l.instrs) t ≡ false);
}

abbrev pub decreases-loop-target : goal.decreases-loop-target
decreases-loop-target l = l.target
