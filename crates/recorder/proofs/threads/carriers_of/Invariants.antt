use Rattle.std.proofs.Common.{◌≡◌, length}
use Rattle.std.specs.Vec.Iter.{into_iter_items, into_iter_len}
use Rattle.recorder.proofs.Dealing.{HasDealt}
use Rattle.recorder.proofs.threads.carriers_of.Given as goal

abbrev pub invariant-loop-seat : goal.invariant-loop-seat
invariant-loop-seat l = record {
  dealt : HasDealt l.cells l.budget l.fn.seats.items l.carriers.items (into_iter_items l.seat-iterator);
  long : into_iter_len l.seat-iterator ≡ length (into_iter_items l.seat-iterator);
}
