use Rattle.std.proofs.Common.{length}
use Rattle.crew.specs.Schedule.{Reached, whose}
use Rattle.crew.proofs.play.Play.follow.Given as goal

abbrev pub invariant-loop-number : goal.invariant-loop-number
invariant-loop-number g l = Reached g.J.Job (whose l.order (length l.initial.self.jobs)) l.initial.self l.number-index l.self
