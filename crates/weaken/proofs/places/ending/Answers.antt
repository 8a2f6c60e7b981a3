use Rattle.std.proofs.Common.{arith, ◌∙◌, ◌+◌}
use Rattle.weak_code.specs.declared.stretch.Stretch.{Stretch}
use Rattle.weaken.proofs.Nexts.{here}
use Rattle.weaken.proofs.Lengths.{number_put_at}
use Rattle.weaken.proofs.places.ending.Goals as goal

pub loop-number-preserved : goal.loop-number-preserved
loop-number-preserved c = record {
  long = c.put.ensures.len ∙ c.loop-number.invariant.long;
  each = λ k lt. number_put_at (λ (s : Stretch). s.last + 1) k c.args.stretches.now c.loop-number.number c.in_ok-region.region c.in_ok-after.after c.index-stretches-number.result _ _ (here c.args.stretches.now c.loop-number.number c.index-stretches-number.result (omega arith) c.index-stretches-number.is) c.in_ok-region.ensures c.in_ok-after.ensures (c.loop-number.invariant.each k lt) (c.in_ok-put.ensures.each k (omega (arith, c.loop-number.invariant.long, lt)));
}
