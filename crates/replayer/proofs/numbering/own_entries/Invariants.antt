use Rattle.std.proofs.Common.{length}
use Rattle.replayer.proofs.Numbers.{AreWanted}
use Rattle.replayer.proofs.numbering.own_entries.Given as goal

abbrev pub invariant-loop-rest : goal.invariant-loop-rest
invariant-loop-rest l = AreWanted l.thread l.fn.noted l.wanted l.position l.rest

abbrev pub decreases-loop-rest : goal.decreases-loop-rest
decreases-loop-rest l = length l.rest
