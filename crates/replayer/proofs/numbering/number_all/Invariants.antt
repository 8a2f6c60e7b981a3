use Rattle.replayer.proofs.Numbers.{AreNumbered}
use Rattle.replayer.proofs.numbering.number_all.Given as goal

abbrev pub invariant-loop-k : goal.invariant-loop-k
invariant-loop-k l = AreNumbered l.entries l.counts l.noted l.k
