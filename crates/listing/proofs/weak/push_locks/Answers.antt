use Rattle.listing.proofs.Locks.{next_lock}
use Rattle.listing.proofs.weak.push_locks.Goals as goal

pub loop-number-preserved : goal.loop-number-preserved
loop-number-preserved c = next_lock c.args.code.now c.args.locks.now c.loop-number.number _ c.args.out.now c.loop-number.out c.push_lock.new.out c.loop-number-test.true c.loop-number.invariant c.in_ok-push_lock.ensures
