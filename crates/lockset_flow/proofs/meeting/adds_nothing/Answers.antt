use Rattle.std.proofs.Common.{◌≡◌, true, sym, ap, ◌∙◌}
use Rattle.std.specs.List.{list_all}
use Rattle.facts.specs.Locks.{has, both, are_ascending}
use Rattle.lockset_flow.proofs.Walking.{both_there}
use Rattle.lockset_flow.proofs.meeting.adds_nothing.Goals as goal

pub returns : goal.returns
returns c h =
    let up : are_ascending c.in-Listed.paths ≡ true = ap are_ascending (sym c.as_slice-3.ensures) ∙ sym c.ascend.ensures ∙ h in
    let all : list_all (λ q. has q c.in-Listed.paths) c.in-Listed-other.others ≡ true =
    sym (λ i. list_all (λ q. has q (c.as_slice-2.ensures i)) (c.as_slice.ensures i)) ∙ c.are_among.ensures c.if-not-are_among.false
    in
    (λ i. both (c.in-Listed.is i) (c.in-Listed-other.is i)) ∙ both_there c.in-Listed.paths c.in-Listed-other.others up all ∙ sym c.in-Listed.is
