use Rattle.std.proofs.Common.{◌≡◌, ◌++◌, ◌*◌, replicate}
use Rattle.shared_cells.proofs.cells.first_words.Given as goal

abbrev pub invariant-loop-k : goal.invariant-loop-k
invariant-loop-k l = record { words : l.words.items ≡ l.initial.words.items ++ replicate (8 * l._k) 0 }
