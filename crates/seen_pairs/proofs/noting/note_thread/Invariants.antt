use Rattle.std.proofs.Common.{◌-◌, ℕ, List, length}
use Rattle.seen_pairs.specs.Pairings.{Notes}
use Rattle.seen_pairs.proofs.Sets.{Apart, Later}
use Rattle.seen_pairs.proofs.noting.note_thread.Given as goal

abbrev pub invariant-loop-at : goal.invariant-loop-at
invariant-loop-at l = record { noted : (new : List (ℕ × ℕ)) → Notes l.pairs.keys new (Later l.mine l.stacks l.thread l.at) → Notes l.fn.pairs.keys new (Apart l.mine l.stacks l.thread) }

abbrev pub decreases-loop-at : goal.decreases-loop-at
decreases-loop-at l = length l.stacks - l.at
