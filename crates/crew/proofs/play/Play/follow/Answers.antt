use Rattle.std.proofs.Common.{length, sym, ◌∙◌}
use Rattle.crew.specs.Schedule.{begins, whose}
use Rattle.crew.proofs.Reaching.{goes_to, whose_order}
use Rattle.crew.proofs.play.Play.follow.Goals as goal

pub loop-number-init : goal.loop-number-init
loop-number-init g c = begins

pub loop-number-preserved : goal.loop-number-preserved
loop-number-preserved g c =
    let order = c.args.order.now in let jobs = length c.args.self.now.jobs in let k = c.loop-number.number-index in
    goes_to g.J.Job (whose order jobs) c.args.self.now k c.from.result c.loop-number.self c.chance.new.self c.loop-number.invariant
    (whose_order order jobs k c.loop-number-test.true 0 ∙ sym c.from.ensures) c.if-not-chance.ensures
