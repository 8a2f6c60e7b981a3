use Rattle.std.proofs.Common.{None, length}
use Rattle.snapshots.specs.Conditions.{objects_judged}
use Rattle.snapshot_reader.specs.Misfits.{Judging}
use Rattle.snapshot_reader.proofs.objects.misfit_object.Given as goal

abbrev pub invariant-loop-rest : goal.invariant-loop-rest
invariant-loop-rest l = Judging (objects_judged l.code l.setup None l.listed) (objects_judged l.code l.setup l.before l.rest) l.first l.line

abbrev pub decreases-loop-rest : goal.decreases-loop-rest
decreases-loop-rest l = length l.rest
