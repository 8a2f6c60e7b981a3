use Rattle.std.proofs.Common.{sym, ap, ◌∙◌, ◌≡◌, false}
use Rattle.lockset_flow.specs.Rounds.{grows}
use Rattle.lockset_flow.proofs.Meets.{joined_same}
use Rattle.lockset_flow.proofs.meeting.join.Goals as goal

pub returns-clause-same : goal.returns-clause-same
returns-clause-same c h =
    let e = c.in_ok-joined.ensures in
    let g : grows c.args.minus.now c.in_ok-joined.joined ≡ false = sym c.grows-came.ensures.value ∙ h in
    e ∙ joined_same c.args.minus.now c.args.other.now (ap (grows c.args.minus.now) (sym e) ∙ g)
