use Rattle.std.proofs.Common.{ℕ, ◌+◌, ◌*◌, length}
use Rattle.crew.specs.Schedule.{Reached, whose}
use Rattle.crew.proofs.play.Play.play.Given as goal

-- after the order lie so many whole rounds
abbrev pub invariant-loop-self : goal.invariant-loop-self
invariant-loop-self g l =
    let jobs = length l.fn.self.jobs in
    (rounds : ℕ) × Reached g.J.Job (whose l.order jobs) l.fn.self (length l.order + rounds * jobs) l.self

abbrev pub decreases-loop-self : goal.decreases-loop-self
decreases-loop-self g l = l.self.left
