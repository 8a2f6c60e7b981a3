use Rattle.std.proofs.Common.{◌≡◌, length}
use Rattle.std.specs.Vec.Iter.{into_iter_items, into_iter_len}
use Rattle.recorder.proofs.Dealing.{HasTaken}
use Rattle.recorder.proofs.threads.parts_of.Given as goal

abbrev pub invariant-loop-carrier : goal.invariant-loop-carrier
invariant-loop-carrier l = record {
  taken : HasTaken l.fn.carriers.items l.seats.items l.lists l.remains.items (into_iter_items l.carrier-iterator);
  long : into_iter_len l.carrier-iterator ≡ length (into_iter_items l.carrier-iterator);
}
