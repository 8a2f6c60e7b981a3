use Rattle.std.proofs.Common.{sym}
use Rattle.std.proofs.lemmas.List.{take_rest}
use Rattle.order_log.proofs.Parts.{cut_found, Free-more, cut_not_found}
use Rattle.order_log.proofs.part.cut.Goals as goal

pub loop-end-init : goal.loop-end-init
loop-end-init c = tt

pub returns-then-b-at : goal.returns-then-b-at
returns-then-b-at c =
    rw take_rest (sym (cut_found c.args.at c.loop-end.end c.args.bytes.now c.loop-end-test.true c.loop-end.invariant c.if-b-at.true))

pub loop-end-preserved : goal.loop-end-preserved
loop-end-preserved c = Free-more c.args.at c.loop-end.end c.args.bytes.now c.loop-end-test.true c.loop-end.invariant c.if-b-at.false

pub returns : goal.returns
returns c = sym (cut_not_found c.args.at c.loop-end.end c.args.bytes.now c.loop-end-test.false c.loop-end.invariant)
