use Rattle.std.proofs.Common.{arith, ◌∙◌, ap}
use Rattle.weak_code.specs.Places as spec
use Rattle.weaken.proofs.Nexts.{here, take_all}
use Rattle.weaken.proofs.Lengths.{left_next, left_none}
use Rattle.weaken.proofs.places.left.Goals as goal

pub loop-number-init : goal.loop-number-init
loop-number-init c = record {
  long = c.in_ok-groups.ensures.len;
  each = λ k i h. c.in_ok-groups.ensures.each k ∙ left_none k i.act;
}

pub loop-number-preserved : goal.loop-number-preserved
loop-number-preserved c = record {
  long = c.put_returns.ensures.len ∙ c.loop-number.invariant.long;
  each = λ k i h. left_next c.args.stretches.now c.loop-number.number c.in_ok-region.region k c.index-stretches-number.result i.act _ _ (here c.args.stretches.now c.loop-number.number c.index-stretches-number.result (omega arith) c.index-stretches-number.is) c.in_ok-region.ensures (c.loop-number.invariant.each k i h) (c.in_ok-put_returns.ensures.each k i h);
}

pub returns-clause-each : goal.returns-clause-each
returns-clause-each c = λ k i h. c.loop-number.invariant.each k i h ∙ ap (λ z. spec.left z k i.act) (take_all c.args.stretches.now c.loop-number.number (omega arith))
