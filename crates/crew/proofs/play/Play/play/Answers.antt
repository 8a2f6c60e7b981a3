use Rattle.std.proofs.Common.{length, ◌+◌, ◌*◌}
use Rattle.crew.specs.Schedule.{whose}
use Rattle.crew.proofs.Reaching.{is_round, rounds_on}
use Rattle.crew.proofs.play.Play.play.Goals as goal

pub returns-then-not-round : goal.returns-then-not-round
returns-then-not-round g c =
    let order = c.args.order.now in let start = c.args.self.now in let jobs = length start.jobs in let was = c.loop-self.invariant in
    c.if-not-round.ensures.reached (whose order jobs) start (length order + was.0 * jobs) (is_round g.J.Job order start c.loop-self.self was.0 was.1) was.1

pub loop-self-preserved : goal.loop-self-preserved
loop-self-preserved g c =
    let order = c.args.order.now in let start = c.args.self.now in let was = c.loop-self.invariant in
    (was.0 + 1, rounds_on g.J.Job order start c.loop-self.self c.round.new.self was.0 was.1 (c.if-not-round.ensures.reached (whose order (length start.jobs)) start))
