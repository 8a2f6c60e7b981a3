use Rattle.std.proofs.Common.{◌≡◌, rules}
use Rattle.std.proofs.lemmas.Fn.{always_returns_same}
use Rattle.std.proofs.lemmas.List.Sorted.{IsPermutation-trans}
use Rattle.race_pairs.proofs.Parts.{sorted_where}
use Rattle.race_pairs.proofs.grouping.put_in_order.Goals as goal

pub returns-clause-same : goal.returns-clause-same
returns-clause-same c = IsPermutation-trans c.args.touches.now.items c.sort_by.new.self.items c.sort_by_key.new.self.items c.in_ok-sort_by.ensures.permutation c.sort_by_key.ensures.permutation

pub returns-clause-sorted : goal.returns-clause-sorted
returns-clause-sorted c = sorted_where c.sort_by_key.new.self.items c.sort_by_key.result c.sort_by_key.ensures.sorted (always_returns_same _ (λ a r. r ≡ a.0.now.place) _ (λ a r f h. search rules))
