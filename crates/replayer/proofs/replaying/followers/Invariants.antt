use Rattle.std.specs.Vec.Iter.{into_iter_items}
use Rattle.replayer.proofs.Gathering.{AreMaking}
use Rattle.replayer.proofs.Lowering.{AreLowering}
use Rattle.replayer.proofs.replaying.followers.Given as goal

abbrev pub invariant-loop-seat : goal.invariant-loop-seat
invariant-loop-seat l = (goal.iterator-loop-seat).can_next l.seat-iterator × (goal.iterator-loop-seat).is_finite l.seat-iterator × AreMaking l.cells l.entries l.fn.seats.items l.jobs.items (into_iter_items l.seat-iterator) × AreLowering l.wrong l.entries l.jobs.items
