use Rattle.std.proofs.Common.{sym, ◌∙◌, arith}
use Rattle.order_log.proofs.Groups.{lead_is, lead_more, lead_ends, lead_all}
use Rattle.order_log.proofs.group.sharing.Goals as goal

pub loop-entry-preserved : goal.loop-entry-preserved
loop-entry-preserved c =
    let same = c.loop-entry.invariant.0 in
    (omega arith, lead_more c.args.version c.args.first.now c.loop-entry.before.now _ c.args.rest.now c.loop-entry.entry-index c.loop-entry-test.true (sym c.shares.ensures ∙ c.if-not-shares.false) c.loop-entry.invariant.1)

pub returns-then-not-shares-clause-within : goal.returns-then-not-shares-clause-within
returns-then-not-shares-clause-within c = let same = c.loop-entry.invariant.0 in let lt = c.loop-entry-test.true in omega arith

pub returns-then-not-shares-clause-group : goal.returns-then-not-shares-clause-group
returns-then-not-shares-clause-group c =
    let ends = lead_ends c.args.version c.args.first.now c.loop-entry.before.now _ c.args.rest.now c.loop-entry.entry-index c.loop-entry-test.true (sym c.shares.ensures ∙ c.if-not-shares.true) c.loop-entry.invariant.1 in
    lead_is c.args.version c.args.first.now c.args.rest.now c.loop-entry.more (ends ∙ sym c.loop-entry.invariant.0)

pub returns-clause-within : goal.returns-clause-within
returns-clause-within c = let same = c.loop-entry.invariant.0 in let end = c.loop-entry.auto.entry-index-end in omega arith

pub returns-clause-group : goal.returns-clause-group
returns-clause-group c =
    let ends = lead_all c.args.version c.args.first.now c.loop-entry.before.now c.args.rest.now c.loop-entry.entry-index c.loop-entry-test.false c.loop-entry.invariant.1 in
    lead_is c.args.version c.args.first.now c.args.rest.now c.loop-entry.more (ends ∙ sym c.loop-entry.invariant.0)
