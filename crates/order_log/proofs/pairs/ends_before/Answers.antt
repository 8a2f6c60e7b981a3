use Rattle.order_log.proofs.Loops.{ends_before_last}
use Rattle.order_log.proofs.pairs.ends_before.Goals as goal

pub returns-in-Some : goal.returns-in-Some
returns-in-Some c =
    let e = ends_before_last c.args.before.now c.in-Some.last.now (c.args.first.now, c.args.second.now) c.in-Some.ensures.value in
    cc
