use Rattle.std.proofs.lemmas.Bool.Decides.{same_from_decides}
use Rattle.order_log.specs.Line.{fits}
use Rattle.order_log.proofs.Entries.{Fits-fits, fits-true}
use Rattle.order_log.proofs.entry.is_fitting.Goals as goal

pub returns : goal.returns
returns c = same_from_decides c.fits.result (fits c.args.op c.args.obj) c.fits.ensures (Fits-fits c.args.op c.args.obj, fits-true c.args.op c.args.obj)
