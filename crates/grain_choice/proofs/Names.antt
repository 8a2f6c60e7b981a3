-- Pairs of names, found by halving.
use Rattle.std.proofs.Common.{◌≡◌, ℕ, zero, suc, ◌+◌, ◌<◌, ◌≤◌, Bool, true, false, ◌||◌, List, [], ◌∷◌, length, get_or, refl, sym, ap, subst, ◌∙◌, arith, Ordering, Result, Ok, Err, ⊎_elim}
use Rattle.std.specs.Prelude.{is_ok, IsTrue}
use Rattle.std.specs.Cmp.{IsTotalOrder}
use Rattle.std.specs.List.{list_any}
use Rattle.std.specs.List.Sorted.{IsBinarySearchResult, IsSearchInRange, IsNonDecreasingBy}
use Rattle.std.specs.Ordering.{is_lt, is_eq, ordering_index, ordering_reverse}
use Rattle.std.specs.declared.cmp.Ordering.TheVariants.{Less, Equal, Greater}
use Rattle.std.proofs.lemmas.Bool.{cases_lt}
use Rattle.std.proofs.lemmas.Cmp.{then_total, on_total, nat_list_cmp_total}
use Rattle.std.proofs.lemmas.List.Folds.{list_any_at}
use Rattle.std.proofs.lemmas.List.Sorted.{searchable_from_sorted}
use Rattle.profiles.specs.Profile.{Pair, pair_order, AreAscending, ArePairs}

total : IsTotalOrder pair_order
total = then_total (on_total (λ (p : Pair). p.0) nat_list_cmp_total) (on_total (λ (p : Pair). p.1) nat_list_cmp_total)

less_is : (o : Ordering) → IsTrue (is_lt o) → o ≡ Less
less_is Less h = refl
less_is Equal h = cc
less_is Greater h = cc

-- one that comes before another isn't after it
not_after : (p q : Pair) → IsTrue (is_lt (pair_order p q)) → is_lt (pair_order q p) ≡ false
not_after p q h = ap is_lt (total.antisymm q p ∙ ap ordering_reverse (less_is (pair_order p q) h))

sorted_from : (ps : List Pair) → AreAscending ps → (k : ℕ) (d : Pair) → k + 1 < length ps → is_lt (pair_order (get_or ps (k + 1) d) (get_or ps k d)) ≡ false
sorted_from [] up k d lt = absurd (omega arith)
sorted_from (p ∷ []) up k d lt = absurd (omega arith)
sorted_from (p ∷ q ∷ ps) up zero d lt = not_after p q up.0
sorted_from (p ∷ q ∷ ps) up (suc k) d lt = let e : suc (k + 1) ≡ suc k + 1 = omega arith in subst (λ n. is_lt (pair_order (get_or (p ∷ q ∷ ps) n d) (get_or (q ∷ ps) k d)) ≡ false) e (sorted_from (q ∷ ps) up.1 k d (omega arith))

searchable : (ps : List Pair) (q : Pair) → AreAscending ps → IsNonDecreasingBy (λ r. ordering_index (pair_order r q)) ps
searchable ps q up = searchable_from_sorted total (λ (p : Pair). p) ps q (λ k d zero_le lt. sorted_from ps up k d lt)

none_same : (ps : List Pair) (q : Pair) → ((k : ℕ) (d : Pair) → k < length ps → is_eq (pair_order (get_or ps k d) q) ≡ false) → list_any (λ r. is_eq (pair_order r q)) ps ≡ false
none_same [] q h = refl
none_same (p ∷ ps) q h = neither (is_eq (pair_order p q)) (list_any (λ r. is_eq (pair_order r q)) ps) (h 0 p (omega arith)) (none_same ps q (λ k d lt. h (suc k) d (omega arith)))
  where
    neither : (a b : Bool) → a ≡ false → b ≡ false → a || b ≡ false
    neither true b e f = cc
    neither false b e f = f

-- what a search says is whether the pairs have it
pub searched : (ps : List Pair) (q : Pair) (r : Result ℕ ℕ) → ArePairs ps → IsSearchInRange r (length ps) → IsBinarySearchResult (λ p. pair_order p q) ps r → is_ok r ≡ list_any (λ p. is_eq (pair_order p q)) ps
searched ps q (Ok i) are bound at = sym (list_any_at (λ p. is_eq (pair_order p q)) ps i q bound (ap is_eq (at q)))
searched ps q (Err i) are bound at =
    let parts = at (searchable ps q are.ascending) in
    sym (none_same ps q (λ k d lt. ⊎_elim (λ (l : k < i). ap is_eq (parts.0 k d (omega arith) l)) (λ (g : i ≤ k). ap is_eq (parts.1 k d g lt)) (cases_lt k i)))
