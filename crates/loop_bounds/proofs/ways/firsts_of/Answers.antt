use Rattle.std.proofs.Common.{◌-◌, ◌∙◌, arith}
use Rattle.std.specs.Prelude.{slice_index_or}
use Rattle.loop_bounds.proofs.Entered.{firsts_next}
use Rattle.loop_bounds.proofs.ways.firsts_of.Goals as goal

pub loop-left-preserved : goal.loop-left-preserved
loop-left-preserved c = record {
  within = omega (arith, c.loop-left.invariant.within);
  long = c.put_targets.ensures.length ∙ c.loop-left.invariant.long;
  each = λ m k lt le. firsts_next c.args.instrs.now c.loop-left.left (c.loop-left.left - 1) m k (slice_index_or c.loop-left.firsts.items m 0) (slice_index_or c.put_targets.new.places.items m 0) c.index-instrs-left.result (omega arith) (omega (arith, c.loop-left.invariant.within)) le (c.loop-left.invariant.each m k lt le) (c.put_targets.ensures.each m (omega (arith, c.loop-left.invariant.long)));
}
