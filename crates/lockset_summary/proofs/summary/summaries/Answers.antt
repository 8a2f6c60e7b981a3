use Rattle.std.proofs.Common.{sym, subst, length}
use Rattle.facts.specs.Summaries.{AllListsKnown, AreGreatest}
use Rattle.lockset_summary.specs.Collecting.{AreCollected}
use Rattle.lockset_summary.specs.Guarding.{AreMade, AreAllMet}
use Rattle.lockset_summary.proofs.Nearing.{are_summaries}
use Rattle.lockset_summary.proofs.Rounds.{ok_map}
use Rattle.lockset_summary.proofs.summary.summaries.Goals as goal

pub all_points-requires-clause-tops : goal.all_points-requires-clause-tops
all_points-requires-clause-tops c = subst (AllListsKnown c.args.code.now) (sym c.as_slice-3.ensures) c.in_ok-tops.ensures

pub returns : goal.returns
returns c = ok_map c.collect.result _ _ (λ ss h. are_summaries c.args.code.now c.in_ok-tops.tops c.in_ok-points.points c.in_ok-rows.rows.items ss c.in_ok-tops.ensures
    (subst (λ z. AreGreatest c.args.code.now z c.in_ok-points.points) c.as_slice-3.ensures c.in_ok-points.ensures.greatest)
    (subst (λ z. AreMade c.args.code.now z c.in_ok-rows.rows.items) c.as_slice-5.ensures c.in_ok-rows.ensures.sound)
    (subst (λ z. AreAllMet c.args.code.now z c.in_ok-rows.rows.items) c.as_slice-5.ensures c.in_ok-rows.ensures.met)
    (subst (λ z. AreCollected z c.in_ok-rows.rows.items (length z) ss) c.as_slice-6.ensures h)) c.collect.ensures
