use Rattle.std.proofs.Common.{◌≡◌, ℕ, ◌<◌, length}
use Rattle.std.specs.Prelude.{slice_index}
use Rattle.shared_cells.specs.Words.{spread}
use Rattle.shared_cells.proofs.spots.spread_words.Given as goal

abbrev pub invariant-loop-k : goal.invariant-loop-k
invariant-loop-k l = record {
  size : length l.table.items ≡ spread l.cells l.lone (length l.words);
  at : (place : ℕ) → place < l.k → slice_index l.table.items (spread l.cells l.lone place) ≡ slice_index l.words place;
}
