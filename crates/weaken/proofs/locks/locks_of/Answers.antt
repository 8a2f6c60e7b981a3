use Rattle.std.proofs.Common.{arith}
use Rattle.weaken.proofs.Nexts.{gets}
use Rattle.weaken.proofs.Found.{locks_step}
use Rattle.weaken.proofs.locks.locks_of.Goals as goal

pub loop-place-preserved : goal.loop-place-preserved
loop-place-preserved c = record {
  up = c.in_ok-put_lock.ensures.ascending;
  same = locks_step c.args.locked.now c.args.places.now c.loop-place.place-index _ c.loop-place.found c.put_lock.new.found _ (gets c.args.places.now c.loop-place.place-index _ (omega arith)) c.in_ok-put_lock.ensures.value c.loop-place.invariant.same;
}
