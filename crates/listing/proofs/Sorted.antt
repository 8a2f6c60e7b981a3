-- What the sorts of this crate give.
use Rattle.std.proofs.Common.{◌≡◌, Bool, true, false, List, subst, ⊎_elim}
use Rattle.std.specs.Cmp.{IsStrictWeakOrder}
use Rattle.std.specs.List.Sorted.{IsSorted, IsSortedBy, IsSortedByKey, IsStable, IsStableBy, IsStableByKey}
use Rattle.std.specs.Ordering.{is_lt}
use Rattle.std.proofs.lemmas.Bool.{cases_Bool, both_ways}
use Rattle.flow_code.specs.declared.code.Code.{Code}
use Rattle.facts.proofs.TotalOrders.{Orders, not_less_along}
use Rattle.weak_lock_facts.specs.declared.grain.Grained.{Grained}
use Rattle.listing.specs.declared.line.Line.{Line}
use Rattle.listing.specs.Lines.{shown, shown_less, shown_same, line_less, sorted_lines}
use Rattle.listing.specs.Sorting.{sorted_by}
use Rattle.listing.specs.WeakText.{access_before}
use Rattle.listing.proofs.Orders.{orders_shown, orders_lines, line_same, line_cmp, line_cmp_less, shown_cmp, shown_cmp_less}
use Rattle.listing.proofs.Sorting.{sorted_is}

-- items by a total order of their keys
module _ {X K : Type 0} (key : X → K) (less same : K → K → Bool) (o : Orders less same) where
  not_back : (k l : K) → less k l ≡ true → less l k ≡ false
  not_back k l h = ⊎_elim (λ t. absurd (both_ways (less k k) (o.self k) (o.along k l k h t))) (λ f. f) (cases_Bool (less l k))

  weak_order : IsStrictWeakOrder (λ (x y : X). less (key x) (key y))
  weak_order = record {
    one_way = λ x y h. not_back (key x) (key y) h;
    chain = λ x y z h k. not_less_along less same o (key z) (key y) (key x) k h;
  }

pub lines_are : (ls ms : List Line) → IsSorted line_cmp ms → IsStable line_cmp ls ms → ms ≡ sorted_lines ls
lines_are ls ms up stable =
    let e : (λ (x y : Line). is_lt (line_cmp x y)) ≡ line_less = λ i. λ x y. line_cmp_less x y i in
    sorted_is line_less (weak_order (λ (l : Line). l) line_less line_same orders_lines) ls ms (subst (λ f. IsSortedBy f ms) e up) (subst (λ f. IsStableBy f ls ms) e stable)

pub accesses_are : (code : Code) (gs hs : List Grained) → IsSortedByKey (λ (g : Grained). shown code g.access) shown_cmp hs → IsStableByKey (λ (g : Grained). shown code g.access) shown_cmp gs hs → hs ≡ sorted_by (access_before code) gs
accesses_are code gs hs up stable =
    let e : (λ (x y : Grained). is_lt (shown_cmp (shown code x.access) (shown code y.access))) ≡ access_before code = λ i. λ x y. shown_cmp_less (shown code x.access) (shown code y.access) i in
    sorted_is (access_before code) (weak_order (λ (g : Grained). shown code g.access) shown_less shown_same orders_shown) gs hs (subst (λ f. IsSortedBy f hs) e up) (subst (λ f. IsStableBy f gs hs) e stable)
