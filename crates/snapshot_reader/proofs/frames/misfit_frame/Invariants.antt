use Rattle.std.proofs.Common.{None, length}
use Rattle.std.specs.Option.{option_copied}
use Rattle.snapshots.specs.Conditions.{frames_judged}
use Rattle.snapshot_reader.specs.Misfits.{Judging}
use Rattle.snapshot_reader.proofs.frames.misfit_frame.Given as goal

abbrev pub invariant-loop-rest : goal.invariant-loop-rest
invariant-loop-rest l = Judging (frames_judged l.code l.setup None l.frames) (frames_judged l.code l.setup (option_copied l.before) l.rest) l.first l.line

abbrev pub decreases-loop-rest : goal.decreases-loop-rest
decreases-loop-rest l = length l.rest
