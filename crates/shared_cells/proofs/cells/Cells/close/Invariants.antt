use Rattle.std.proofs.Common.{◌≡◌, ◌≤◌}
use Rattle.std.specs.Vec.{vec_len, vec_capacity}
use Rattle.std.specs.Slots.{slots_items}
use Rattle.shared_cells.proofs.Ended.{gathered}
use Rattle.shared_cells.proofs.cells.Cells.close.Given as goal

abbrev pub invariant-loop-k : goal.invariant-loop-k
invariant-loop-k l = record {
  room : l.objects ≤ vec_capacity l.words;
  count : vec_len l.words ≡ l.k;
  items : l.words.items ≡ gathered l.cells l.lone (slots_items l.closed.words) l.k;
}
