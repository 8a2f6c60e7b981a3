use Rattle.std.proofs.Common.{◌≡◌, ◌∙◌, ap, rules}
use Rattle.std.proofs.lemmas.Fn.{always_returns_same}
use Rattle.std.proofs.lemmas.List.Filters.{dedup_is}
use Rattle.facts.specs.declared.pair.Pair.{Pair}
use Rattle.facts.specs.Pairs.{pairs_ascend}
use Rattle.race_pairs.proofs.Orders.{pair_same, deduped_ascend_by_key, deduped_same}
use Rattle.race_pairs.proofs.found.drop_repetitions.Goals as goal

pub returns-clause-ascending : goal.returns-clause-ascending
returns-clause-ascending c =
    let is = dedup_is pair_same c.sort_by_key.new.self.items c.dedup.new.self.items c.dedup.ensures.filtered in
    let keys = always_returns_same _ (λ a r. r ≡ (a.0.now.place, a.0.now.first, a.0.now.second)) _ (λ a r next called. search rules) in
    ap pairs_ascend is ∙ deduped_ascend_by_key c.sort_by_key.new.self.items (c.in_ok-sort_by_key.ensures.sorted (λ (v : Pair). (v.place, v.first, v.second)) keys)

pub returns-clause-same : goal.returns-clause-same
returns-clause-same c p =
    let is = dedup_is pair_same c.sort_by_key.new.self.items c.dedup.new.self.items c.dedup.ensures.filtered in
    deduped_same c.args.found.now.items c.sort_by_key.new.self.items c.dedup.new.self.items is c.in_ok-sort_by_key.ensures.permutation p
