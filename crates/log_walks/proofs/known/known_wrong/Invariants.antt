use Rattle.log_walks.proofs.KnownWords.{AreKnown}
use Rattle.log_walks.proofs.known.known_wrong.Given as goal

abbrev pub invariant-loop-k : goal.invariant-loop-k
invariant-loop-k l = AreKnown l.setup.slots l.entries l.words l.k
