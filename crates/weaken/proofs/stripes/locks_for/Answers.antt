use Rattle.std.proofs.Common.{arith}
use Rattle.weaken.proofs.Nexts.{gets}
use Rattle.weaken.proofs.Striped.{lock_next}
use Rattle.weaken.proofs.stripes.locks_for.Goals as goal

pub loop-number-preserved : goal.loop-number-preserved
loop-number-preserved c = lock_next c.args.code.now c.args.points.now c.args.rows.now c.args.locked.now c.in_ok-striped.striped.items c.loop-number.number _ c.index.result.now c.lock_info.result c.loop-number.locks c.push.new.self (gets c.args.locked.now c.loop-number.number _ (omega arith)) (omega (arith, c.in_ok-striped.ensures.len)) c.index.ensures (c.in_ok-striped.ensures.each c.loop-number.number _ (gets c.args.locked.now c.loop-number.number _ (omega arith))) c.lock_info.ensures c.loop-number.invariant c.in_ok-push.ensures.ok
