use Rattle.std.proofs.Common.{arith, ◌∙◌}
use Rattle.weaken.proofs.Nexts.{here}
use Rattle.weaken.proofs.Parts.{spans_next}
use Rattle.weaken.proofs.spans.spans_by_mark.Goals as goal

pub loop-access-preserved : goal.loop-access-preserved
loop-access-preserved c = record {
  long = c.put_span.ensures.len ∙ c.loop-access.invariant.long;
  each = λ k lt. spans_next c.args.instrs.now k c.args.accesses.now c.loop-access.access-index c.access-item.result _ _ (here c.args.accesses.now c.loop-access.access-index c.access-item.result (omega arith) c.access-item.is) (c.loop-access.invariant.each k lt) (c.in_ok-put_span.ensures.each k (omega (arith, c.loop-access.invariant.long, lt)));
}
