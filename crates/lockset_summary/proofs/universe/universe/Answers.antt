use Rattle.std.proofs.Common.{map, sym, ap, subst, ◌∙◌}
use Rattle.facts.specs.Summaries.{AllListsKnown}
use Rattle.lockset_summary.specs.Known.{in_both_ways}
use Rattle.lockset_summary.proofs.Knowing.{lists_known}
use Rattle.lockset_summary.proofs.Rounds.{ok_map}
use Rattle.lockset_summary.proofs.universe.universe.Goals as goal

pub returns : goal.returns
returns c = ok_map c.all_in_both_ways.result _ _
    (λ tops e. subst (AllListsKnown c.args.code.now) (sym (e ∙ ap (map in_both_ways) c.deref.ensures.value)) (lists_known c.args.code.now c.fill.new.rows.items c.in_ok-fill.ensures.known c.in_ok-fill.ensures.told))
    c.all_in_both_ways.ensures
