use Rattle.lockset_flow.specs.Rounds.{Relaxes, MetTo}
use Rattle.lockset_flow.proofs.flow.round.Given as goal

abbrev pub invariant-loop-k : goal.invariant-loop-k
invariant-loop-k l = Relaxes l.exits l.function (MetTo l.exits l.function l.k) l.initial.facts l.facts l.changed
