use Rattle.std.proofs.Common.{arith, ap, ◌∙◌}
use Rattle.std.specs.Prelude.{filter, ◌==◌}
use Rattle.weak_lock_facts.specs.declared.range.Range.{Range}
use Rattle.weaken.proofs.Nexts.{put_next, take_all, gets}
use Rattle.weaken.proofs.grouping.ranges_by_instr.Goals as goal

pub loop-range-preserved : goal.loop-range-preserved
loop-range-preserved c = record {
  long = c.put.ensures.len ∙ c.loop-range.invariant.long;
  each = λ k lt. put_next (λ (r : Range). r.instr == k) c.args.ranges.now c.loop-range.range-index _ _ _ (gets c.args.ranges.now c.loop-range.range-index _ (omega arith)) (c.loop-range.invariant.each k lt) (c.in_ok-put.ensures.each k (omega (arith, c.loop-range.invariant.long, lt)));
}

pub returns-clause-each : goal.returns-clause-each
returns-clause-each c = λ k lt. c.loop-range.invariant.each k lt ∙ ap (filter (λ (r : Range). r.instr == k)) (take_all c.args.ranges.now c.loop-range.range-index (omega arith))
