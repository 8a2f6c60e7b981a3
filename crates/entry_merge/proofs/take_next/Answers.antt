use Rattle.std.proofs.Common.{◌≡◌, ◌≤◌, ◌<◌, Some, None, length, refl, sym, ◌∙◌, rules, slice_get}
use Rattle.entry_merge.specs.Counts.{count_in}
use Rattle.entry_merge.proofs.NextList.{none_goes_on, takes_first, never_empty}
use Rattle.entry_merge.proofs.take_next.Goals as goal

pub returns-in_default : goal.returns-in_default
returns-in_default c = none_goes_on (count_in c.args.counts.now) c.args.lists.now (sym c.next_list.ensures.value ∙ is_none)
  where
    is_none : c.next_list.result ≡ None
    is_none = search rules

pub returns-in_default-at : goal.returns-in_default-at
returns-in_default-at c = absurd (never_empty (count_in c.args.counts.now) c.args.lists.now c.in-Some.at c.at.result.now (sym c.next_list.ensures.value ∙ is_some) there empty)
  where
    is_some : c.next_list.result ≡ Some c.in-Some.at
    is_some = search rules

    there : slice_get c.args.lists.now c.in-Some.at ≡ Some c.at.result.now
    there = search rules

    empty : length c.at.result.now.now < 1
    empty = search rules

pub returns : goal.returns
returns c = takes_first (count_in c.args.counts.now) c.args.lists.now c.set.new.self c.in-Some.at c.at.result.now _ _ c.set.ensures (sym c.next_list.ensures.value ∙ is_some) there some refl
  where
    is_some : c.next_list.result ≡ Some c.in-Some.at
    is_some = search rules

    there : slice_get c.args.lists.now c.in-Some.at ≡ Some c.at.result.now
    there = search rules

    some : 1 ≤ length c.at.result.now.now
    some = search rules
