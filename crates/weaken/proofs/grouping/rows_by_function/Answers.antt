use Rattle.std.proofs.Common.{arith, ap, ◌∙◌}
use Rattle.std.specs.Prelude.{filter, ◌==◌}
use Rattle.weak_lock_facts.specs.declared.grain.Grained.{Grained}
use Rattle.weaken.proofs.Nexts.{put_next, take_all, gets}
use Rattle.weaken.proofs.grouping.rows_by_function.Goals as goal

pub loop-row-preserved : goal.loop-row-preserved
loop-row-preserved c = record {
  long = c.put.ensures.len ∙ c.loop-row.invariant.long;
  each = λ k lt. put_next (λ (g : Grained). g.access.function == k) c.args.rows.now c.loop-row.row-index _ _ _ (gets c.args.rows.now c.loop-row.row-index _ (omega arith)) (c.loop-row.invariant.each k lt) (c.in_ok-put.ensures.each k (omega (arith, c.loop-row.invariant.long, lt)));
}

pub returns-clause-each : goal.returns-clause-each
returns-clause-each c = λ k lt. c.loop-row.invariant.each k lt ∙ ap (filter (λ (g : Grained). g.access.function == k)) (take_all c.args.rows.now c.loop-row.row-index (omega arith))
