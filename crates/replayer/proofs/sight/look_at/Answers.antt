use Rattle.replayer.proofs.Looking.{askable_at}
use Rattle.replayer.proofs.sight.look_at.Goals as goal

pub advance-requires-clause-number : goal.advance-requires-clause-number
advance-requires-clause-number c = (askable_at c.args.cells.now c.args.seat.now c.requires.seat c.requires.runnable c.requires.limits c.args.op c.args.obj c.look-word.result c.requires.object c.requires.fits c.look-word.ensures.found).number

pub advance-requires-clause-sound : goal.advance-requires-clause-sound
advance-requires-clause-sound c = (askable_at c.args.cells.now c.args.seat.now c.requires.seat c.requires.runnable c.requires.limits c.args.op c.args.obj c.look-word.result c.requires.object c.requires.fits c.look-word.ensures.found).sound
