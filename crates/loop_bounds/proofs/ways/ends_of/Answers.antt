use Rattle.std.proofs.Common.{◌∙◌, arith}
use Rattle.std.specs.Prelude.{slice_index_or}
use Rattle.loop_bounds.proofs.Innermost.{ends_next}
use Rattle.loop_bounds.proofs.ways.ends_of.Goals as goal

pub loop-at-preserved : goal.loop-at-preserved
loop-at-preserved c = record {
  long = c.put_targets.ensures.length ∙ c.loop-at.invariant.long;
  each = λ m k lt. ends_next c.args.instrs.now c.loop-at.at m k (slice_index_or c.loop-at.ends.items m 0) (slice_index_or c.put_targets.new.places.items m 0) c.index-instrs-at.result (omega arith) (c.loop-at.invariant.each m k lt) (c.put_targets.ensures.each m (omega (arith, c.loop-at.invariant.long)));
}
