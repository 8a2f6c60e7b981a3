use Rattle.std.proofs.Common.{rules}
use Rattle.facts.specs.Locks.{has_held}
use Rattle.lockset_flow.proofs.Meets.{kept_same}
use Rattle.lockset_flow.proofs.meeting.keep.Goals as goal

pub returns-clause-same : goal.returns-clause-same
returns-clause-same c h = kept_same (λ h. has_held h c.args.others.now) c.args.plus.now c.in_ok-kept.kept _ _ (search rules) (search rules) (search rules) h
