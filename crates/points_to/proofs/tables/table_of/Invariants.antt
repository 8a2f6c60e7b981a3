use Rattle.std.proofs.Common.{◌≡◌, ◌<◌, ◌+◌, ℕ, [], length}
use Rattle.std.specs.Prelude.{slice_index_or}
use Rattle.points_to.specs.Ascending.{block_of}
use Rattle.points_to.specs.Nodes.{listed}
use Rattle.points_to.proofs.tables.table_of.Given as goal

abbrev pub invariant-loop-k : goal.invariant-loop-k
invariant-loop-k l = record {
  long : length l.table ≡ l.k;
  each : (j : ℕ) → j < l.k → slice_index_or l.table j [] ≡ listed (block_of l.sets (l.first + j));
}
