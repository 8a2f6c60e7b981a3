use Rattle.std.proofs.Common.{◌-◌, ℕ, List, drop, length}
use Rattle.seen_pairs.specs.Pairings.{Notes}
use Rattle.seen_pairs.proofs.Sets.{Beside}
use Rattle.seen_pairs.proofs.noting.note_beside.Given as goal

abbrev pub invariant-loop-at : goal.invariant-loop-at
invariant-loop-at l = record { noted : (new : List (ℕ × ℕ)) → Notes l.pairs.keys new (Beside l.function (drop l.at l.stack)) → Notes l.fn.pairs.keys new (Beside l.function l.stack) }

abbrev pub decreases-loop-at : goal.decreases-loop-at
decreases-loop-at l = length l.stack - l.at
