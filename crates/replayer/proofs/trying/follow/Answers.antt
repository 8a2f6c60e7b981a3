use Rattle.std.proofs.Common.{◌<◌, subst}
use Rattle.replayer.proofs.Seated.{passed}
use Rattle.replayer.proofs.trying.follow.Goals as goal

pub returns-then-count-next-2 : goal.returns-then-count-next-2
returns-then-count-next-2 c = passed _ _ _ _ c.requires.set (subst (λ n. c.args.next.entry.count < n) c.count-2.ensures c.if-count-next-2.true) c.requires.in_step
