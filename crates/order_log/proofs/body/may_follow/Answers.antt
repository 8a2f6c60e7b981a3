use Rattle.std.proofs.Common.{◌<◌, sym, arith}
use Rattle.order_log.proofs.Counting.{counted_ending, counted_other}
use Rattle.order_log.proofs.body.may_follow.Goals as goal

pub returns-then-is_ending-clause-counted : goal.returns-then-is_ending-clause-counted
returns-then-is_ending-clause-counted c es counted room =
    let low : c.args.entry.now.thread < 16 = c.is_within.ensures.thread c.if-not-is_within.false in
    counted_ending c.args.counts.now.others c.args.counts.now.endings c.takes.new.counts es c.args.entry.now (omega arith) (sym c.if-is_ending.ensures) (c.takes.ensures.taken room) counted

pub returns-else-is_ending-clause-counted : goal.returns-else-is_ending-clause-counted
returns-else-is_ending-clause-counted c es counted room =
    let low : c.args.entry.now.thread < 16 = c.is_within.ensures.thread c.if-not-is_within.false in
    counted_other c.args.counts.now.others c.args.counts.now.endings c.takes-else-is_ending.new.counts es c.args.entry.now (omega arith) (sym c.if-is_ending.ensures)
    (c.takes-else-is_ending.ensures.taken room) counted
