-- The packed states that the operations on a sound word meet.
use Rattle.std.proofs.Common.{arith}
use Rattle.sync_objects.proofs.Ranges.{signal_fits, arrive_fits, reading_fits, draw_fits}
use Rattle.sync_objects.proofs.table.moved.Goals as goal

pub signal-requires : goal.signal-requires
signal-requires c = let h = signal_fits c.args.op c.args.word c.in-Signal.is c.requires.number c.requires.sound in omega arith

pub arrive-requires : goal.arrive-requires
arrive-requires c = let h = arrive_fits c.args.op c.args.word c.in-Arrive.is c.requires.sound in omega arith

pub read_lock-requires-clause-writer : goal.read_lock-requires-clause-writer
read_lock-requires-clause-writer c = let h = reading_fits c.args.op c.args.word c.in-RdLock.is c.requires.sound in omega arith

pub draw-requires-clause-live : goal.draw-requires-clause-live
draw-requires-clause-live c = let h = draw_fits c.args.op c.in-Draw.slots c.args.word c.in-Draw.is c.requires.sound in omega arith
