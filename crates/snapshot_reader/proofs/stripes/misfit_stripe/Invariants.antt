use Rattle.std.proofs.Common.{List, None, length}
use Rattle.sync_objects.specs.Setup.{SetupView}
use Rattle.snapshots.specs.Conditions.{stripes_judged}
use Rattle.thread_interpreter.specs.declared.part.RegionPart.{RegionPart}
use Rattle.snapshot_reader.specs.Misfits.{Judging}
use Rattle.snapshot_reader.specs.Tallies.{AreNestings}
use Rattle.snapshot_reader.proofs.stripes.misfit_stripe.Given as goal

abbrev pub invariant-loop-rest : goal.invariant-loop-rest
invariant-loop-rest l = (s : SetupView) (regions : List RegionPart) → AreNestings (length l.code.locks) regions l.counts → Judging (stripes_judged l.code s regions None l.stripes) (stripes_judged l.code s regions l.before l.rest) l.first l.line

abbrev pub decreases-loop-rest : goal.decreases-loop-rest
decreases-loop-rest l = length l.rest
