use Rattle.replayer.proofs.Gathering.{AreWholeBelow}
use Rattle.replayer.proofs.replaying.some_is_out.Given as goal

abbrev pub invariant-loop-k : goal.invariant-loop-k
invariant-loop-k l = AreWholeBelow l.followers l.k
