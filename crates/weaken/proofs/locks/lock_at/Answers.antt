use Rattle.std.proofs.Common.{◌≡◌, true, sym}
use Rattle.weaken.proofs.Found.{lock_found, lock_absent}
use Rattle.weaken.proofs.locks.lock_at.Goals as goal

pub returns-then-stands_at : goal.returns-then-stands_at
returns-then-stands_at c = sym (lock_found c.args.locked.now c.args.place c.place_in-at.result c.place_in-at.ensures.below (c.stands_at.ensures.0 c.if-stands_at.true))

pub returns-else-stands_at : goal.returns-else-stands_at
returns-else-stands_at c = sym (lock_absent c.args.locked.now c.args.place c.place_in-at.result c.requires c.place_in-at.ensures.below c.place_in-at.ensures.above (λ e. let h : c.stands_at.result ≡ true = c.stands_at.ensures.1 e in cc))
