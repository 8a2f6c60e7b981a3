use Rattle.std.proofs.Common.{sym, ◌∙◌}
use Rattle.order_log.proofs.Groups.{joins_last}
use Rattle.order_log.proofs.body.joins.Goals as goal

pub returns-in-Some : goal.returns-in-Some
returns-in-Some c = c.shares.ensures ∙ sym (joins_last c.args.version c.args.before.now c.in-Some.last.now c.args.entry.now c.in-Some.ensures.value)
