use Rattle.std.proofs.Common.{arith, ◌∙◌}
use Rattle.weaken.proofs.Nexts.{inside}
use Rattle.weaken.specs.Tables.{returns as returns_of}
use Rattle.weaken.proofs.Lengths.{returns_next, returns_all}
use Rattle.weaken.proofs.places.put_returns.Goals as goal

pub loop-at-preserved : goal.loop-at-preserved
loop-at-preserved c = record {
  long = c.put_return.ensures.len ∙ c.loop-at.invariant.long;
  start = omega (arith, c.loop-at.invariant.start);
  late = λ lt. absurd (omega (arith, lt, c.loop-at.invariant.start));
  each = λ k i h. returns_next (returns_of i.act) c.args.stretch.now.first c.loop-at.at k c.args.region _ _ _ c.loop-at.invariant.start (c.loop-at.invariant.each k i h) (c.in_ok-put_return.ensures.each k i h);
}

pub returns-clause-each : goal.returns-clause-each
returns-clause-each c = λ k i h. returns_all (returns_of i.act) c.args.stretch.now.first c.args.stretch.now.last c.in_ok-end.end c.loop-at.at k c.args.region _ _ (c.in_ok-end.ensures.covers k (inside c.args.instrs.now k i h)) (omega (arith, c.loop-at-test.false)) c.loop-at.auto.at-end c.loop-at.invariant.late (c.loop-at.invariant.each k i h)
