use Rattle.std.proofs.Common.{length, refl}
use Rattle.lockset_summary.proofs.Visiting.{entered}
use Rattle.lockset_summary.proofs.visits.enter.Goals as goal

pub returns : goal.returns
returns c = entered (length c.args._code.now.functions) c.args.search.now _ c.args.f c.args.k c.requires.search c.requires.within c.in_ok-push.ensures.ok c.set.ensures refl
