use Rattle.std.proofs.Common.{◌≡◌, ◌∙◌, sym, ap, List}
use Rattle.std.specs.List.{dedup}
use Rattle.std.proofs.lemmas.List.Filters.{dedup_is}
use Rattle.std.proofs.lemmas.List.Sorted.{list_any-IsPermutation}
use Rattle.facts.specs.declared.pair.AccessAt.{AccessAt}
use Rattle.facts.specs.Pairs.{access_same}
use Rattle.grain_choice.specs.Listed.{is_listed, ascend}
use Rattle.grain_choice.proofs.Ascents.{ascend_deduped, any_deduped}
use Rattle.grain_choice.proofs.accesses.racy.Goals as goal

pub returns : goal.returns
returns c =
    let is : c.dedup.new.self.items ≡ dedup access_same c.sort_unstable.new.self.items = dedup_is access_same c.sort_unstable.new.self.items c.dedup.new.self.items c.dedup.ensures.filtered in
    record {
      ascending = ap ascend is ∙ ascend_deduped c.sort_unstable.new.self.items c.sort_unstable.ensures.sorted;
      has = λ a. ap (λ (bs : List AccessAt). is_listed bs a) is ∙ any_deduped (λ b. access_same b a) c.sort_unstable.new.self.items ∙ sym (list_any-IsPermutation (λ b. access_same b a) c.in_ok-listed.listed.items c.sort_unstable.new.self.items c.sort_unstable.ensures.permutation) ∙ c.in_ok-listed.ensures a;
    }
