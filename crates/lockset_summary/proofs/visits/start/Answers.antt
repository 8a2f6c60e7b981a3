use Rattle.lockset_summary.proofs.Visiting.{marks_more}
use Rattle.lockset_summary.proofs.visits.start.Goals as goal

pub loop-f-preserved : goal.loop-f-preserved
loop-f-preserved c = marks_more c.loop-f.marks _ c.loop-f._f c.in_ok-push.ensures.ok c.loop-f.invariant
