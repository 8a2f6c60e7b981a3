use Rattle.std.proofs.Common.{arith}
use Rattle.weak_code.specs.Stretches as stretches
use Rattle.weaken.proofs.Nexts.{gets, filter_map_step}
use Rattle.weaken.proofs.access.racy_accesses.Goals as goal

pub loop-row-preserved : goal.loop-row-preserved
loop-row-preserved c = filter_map_step (stretches.racy_access c.args.code.now c.args.points.now c.args.locked.now c.args.ranges.now) c.args.rows.now c.loop-row.row-index _ _ _ (gets c.args.rows.now c.loop-row.row-index _ (omega arith)) c.loop-row.invariant c.in_ok-put_access.ensures
