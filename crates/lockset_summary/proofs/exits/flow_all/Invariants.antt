use Rattle.lockset_summary.proofs.Nearing.{AreFirstGreatest}
use Rattle.lockset_summary.proofs.exits.flow_all.Given as goal

abbrev pub invariant-loop-f : goal.invariant-loop-f
invariant-loop-f l = AreFirstGreatest l.code l.tops l.exits l.f l.points
