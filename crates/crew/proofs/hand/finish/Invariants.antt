use Rattle.crew.proofs.Reaching.{Led}
use Rattle.crew.proofs.hand.finish.Given as goal

abbrev pub invariant-loop : goal.invariant-loop
invariant-loop g l = (goal.iterator-loop g).can_next l.iterator' × (goal.iterator-loop g).is_finite l.iterator' × Led g.J.Job l.fn.job l.job
