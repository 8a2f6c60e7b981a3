use Rattle.std.specs.Prelude.{take}
use Rattle.shared_cells.specs.Seats.{IsSeatOf}
use Rattle.weak_turns.specs.Finding.{HasSearched}
use Rattle.weak_turns.proofs.revokes.revoke_due.Given as goal

abbrev pub invariant-loop-item : goal.invariant-loop-item
invariant-loop-item l = record { seat : IsSeatOf l.cells l.seat; searched : HasSearched l.cells l.fn.seat l.seat l.since l.budget l.turn (take l.item-index l.item-items) l.due }
