use Rattle.std.proofs.Common.{◌≡◌, ◌∙◌, ap, List, rules}
use Rattle.std.proofs.lemmas.Fn.{always_returns_same}
use Rattle.weak_lock_facts.specs.declared.grain.Grained.{Grained}
use Rattle.listing.specs.Lines.{shown}
use Rattle.listing.specs.Sorting.{sorted_by}
use Rattle.listing.specs.WeakText.{access_before}
use Rattle.listing.proofs.Sorted.{accesses_are}
use Rattle.listing.proofs.weak.in_order.Goals as goal

pub returns : goal.returns
returns c =
    let code = c.args.code.now in
    let keys = always_returns_same _ (λ a r. r ≡ shown code a.0.now.access) _ (λ a r next called. search rules) in
    let sorted = c.in_ok-sort_by_key.ensures.sorted (λ (g : Grained). shown code g.access) keys in
    let stable = c.in_ok-sort_by_key.ensures.stable (λ (g : Grained). shown code g.access) keys in
    accesses_are code c.in_ok-all.all.items c.sort_by_key.new.self.items sorted stable ∙ ap (λ (gs : List Grained). sorted_by (access_before code) gs) c.in_ok-all.ensures.items
