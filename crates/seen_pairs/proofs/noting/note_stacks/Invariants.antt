use Rattle.std.proofs.Common.{◌-◌, ℕ, List, drop, length}
use Rattle.seen_pairs.specs.Pairings.{Notes}
use Rattle.seen_pairs.proofs.Sets.{Across}
use Rattle.seen_pairs.proofs.noting.note_stacks.Given as goal

abbrev pub invariant-loop-at : goal.invariant-loop-at
invariant-loop-at l = record { noted : (new : List (ℕ × ℕ)) → Notes l.pairs.keys new (Across (drop l.at l.mine) l.other) → Notes l.fn.pairs.keys new (Across l.mine l.other) }

abbrev pub decreases-loop-at : goal.decreases-loop-at
decreases-loop-at l = length l.mine - l.at
