use Rattle.std.proofs.Common.{◌+◌, ◌≤◌}
use Rattle.shared_cells.proofs.Dealt.{IsDealt}
use Rattle.shared_cells.proofs.dealing.deal.Given as goal

abbrev pub invariant-loop-k : goal.invariant-loop-k
invariant-loop-k l = record {
  low : l.k + 1 ≤ l.shared.key.setup.slots;
  dealt : IsDealt l.shared.key l.shared.table_id l.k l.last l.seats.items;
}
