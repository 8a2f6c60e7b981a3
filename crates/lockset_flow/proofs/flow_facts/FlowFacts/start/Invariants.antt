use Rattle.std.proofs.Common.{◌≡◌}
use Rattle.lockset_flow.specs.Rounds.{starts}
use Rattle.lockset_flow.proofs.flow_facts.FlowFacts.start.Given as goal

abbrev pub invariant-loop-k : goal.invariant-loop-k
invariant-loop-k l = l.rows.items ≡ starts l.top l.k
