use Rattle.std.proofs.Common.{arith, ap, sym, ◌∙◌}
use Rattle.weak_code.specs.declared.stretch.Stretch.{Stretch}
use Rattle.weaken.proofs.Nexts.{here}
use Rattle.weaken.proofs.Lengths.{number_put_at}
use Rattle.weaken.proofs.places.beginning.Goals as goal

pub loop-number-preserved : goal.loop-number-preserved
loop-number-preserved c = record {
  long = c.put.ensures.len ∙ c.loop-number.invariant.long;
  each = λ k lt. number_put_at (λ (s : Stretch). s.first) k c.args.stretches.now c.loop-number.number c.in_ok-region.region _ c.index-stretches-number.result _ _ (here c.args.stretches.now c.loop-number.number c.index-stretches-number.result (omega arith) c.index-stretches-number.is) c.in_ok-region.ensures (ap (λ (s : Stretch). s.first) (sym c.index-stretches-number.is)) (c.loop-number.invariant.each k lt) (c.in_ok-put.ensures.each k (omega (arith, c.loop-number.invariant.long, lt)));
}
