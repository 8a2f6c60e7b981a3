-- The orders of places, accesses and pairs, as tests and as comparisons.
use Rattle.std.proofs.Common.{◌≡◌, ℕ, ◌+◌, get_or, Bool, true, false, cond, ◌&&◌, ◌||◌, List, [], ◌∷◌, refl, sym, ap, subst, ◌∙◌, arith, Ordering}
use Rattle.std.specs.Prelude.{nat_lt, ◌==◌, ◌↔◌}
use Rattle.std.specs.Cmp.{IsTotalOrder, IsEquivalence}
use Rattle.std.specs.List.{Contains, dedup}
use Rattle.std.specs.List.Sorted.{IsStrictlySortedBy, IsSorted, IsPermutation}
use Rattle.std.specs.Ordering.{is_lt, is_eq, nat_cmp, ordering_then, eq_by_cmp}
use Rattle.std.specs.declared.cmp.Ordering.TheVariants.{Less, Equal, Greater}
use Rattle.std.proofs.lemmas.Bool.Decides.{nat_tests}
use Rattle.std.proofs.lemmas.Cmp.{then_total, on_total, nat_cmp_total, nat_eq_equiv, on_equiv, and_equiv}
use Rattle.std.proofs.lemmas.List.Kept.{IsStrictlySortedBy-dedup, Contains-dedup, Contains-from_dedup}
use Rattle.std.proofs.lemmas.List.Sorted.{IsPermutation-sym, Contains-permutation}
use Rattle.rr_base.specs.declared.layout.Place.{Place}
use Rattle.facts.specs.declared.pair.AccessAt.{AccessAt}
use Rattle.facts.specs.declared.pair.Pair.{Pair}
use Rattle.facts.specs.Pairs.{place_less, place_same, access_less, access_same, pair_less, pairs_ascend}
use Rattle.facts.proofs.TotalOrders.{Orders, orders_numbers, orders_by, orders_places}

pub orders_accesses : Orders access_less access_same
orders_accesses = orders_by (λ (a : AccessAt). a.function) (λ a. a.instr) nat_lt (λ x y. x == y) nat_lt (λ x y. x == y) orders_numbers orders_numbers (λ x y e f. λ i. record { function = e i; instr = f i })

-- ---- comparisons

lt_then : (o q : Ordering) → is_lt (ordering_then o q) ≡ is_lt o || (is_eq o && is_lt q)
lt_then Less q = refl
lt_then Equal q = refl
lt_then Greater q = refl

eq_then : (o q : Ordering) → is_eq (ordering_then o q) ≡ is_eq o && is_eq q
eq_then Less q = refl
eq_then Equal q = refl
eq_then Greater q = refl

lt_of : (p q : Bool) → is_lt (cond p Less (cond q Equal Greater)) ≡ p
lt_of true q = refl
lt_of false true = refl
lt_of false false = refl

eq_of : (p q : Bool) → (p ≡ true → q ≡ false) → is_eq (cond p Less (cond q Equal Greater)) ≡ q
eq_of true true h = let k = h refl in cc
eq_of true false h = refl
eq_of false true h = refl
eq_of false false h = refl

nat_lt_is : (m n : ℕ) → is_lt (nat_cmp m n) ≡ nat_lt m n
nat_lt_is m n = lt_of (nat_lt m n) (m == n)

nat_eq_is : (m n : ℕ) → is_eq (nat_cmp m n) ≡ (m == n)
nat_eq_is m n = eq_of (nat_lt m n) (m == n) (λ h. grind (arith, nat_tests, h))

-- by one part, then by another
both_lt : (o q : Ordering) (l s m : Bool) → is_lt o ≡ l → is_eq o ≡ s → is_lt q ≡ m → is_lt (ordering_then o q) ≡ l || (s && m)
both_lt o q l s m e f g = lt_then o q ∙ (λ i. e i || (f i && g i))

both_eq : (o q : Ordering) (s t : Bool) → is_eq o ≡ s → is_eq q ≡ t → is_eq (ordering_then o q) ≡ s && t
both_eq o q s t e f = eq_then o q ∙ (λ i. e i && f i)

abbrev pub place_cmp : Place → Place → Ordering
place_cmp p q = ordering_then (nat_cmp p.site q.site) (nat_cmp p.class q.class)

abbrev pub access_cmp : AccessAt → AccessAt → Ordering
access_cmp a b = ordering_then (nat_cmp a.function b.function) (nat_cmp a.instr b.instr)

pub place_lt : (p q : Place) → is_lt (place_cmp p q) ≡ place_less p q
place_lt p q = both_lt (nat_cmp p.site q.site) (nat_cmp p.class q.class) (nat_lt p.site q.site) (p.site == q.site) (nat_lt p.class q.class) (nat_lt_is p.site q.site) (nat_eq_is p.site q.site) (nat_lt_is p.class q.class)

pub place_eq : (p q : Place) → is_eq (place_cmp p q) ≡ place_same p q
place_eq p q = both_eq (nat_cmp p.site q.site) (nat_cmp p.class q.class) (p.site == q.site) (p.class == q.class) (nat_eq_is p.site q.site) (nat_eq_is p.class q.class)

pub access_lt : (a b : AccessAt) → is_lt (access_cmp a b) ≡ access_less a b
access_lt a b = both_lt (nat_cmp a.function b.function) (nat_cmp a.instr b.instr) (nat_lt a.function b.function) (a.function == b.function) (nat_lt a.instr b.instr) (nat_lt_is a.function b.function) (nat_eq_is a.function b.function) (nat_lt_is a.instr b.instr)

pub access_eq : (a b : AccessAt) → is_eq (access_cmp a b) ≡ access_same a b
access_eq a b = both_eq (nat_cmp a.function b.function) (nat_cmp a.instr b.instr) (a.function == b.function) (a.instr == b.instr) (nat_eq_is a.function b.function) (nat_eq_is a.instr b.instr)

pub place_total : IsTotalOrder place_cmp
place_total = then_total (on_total (λ (p : Place). p.site) nat_cmp_total) (on_total (λ (p : Place). p.class) nat_cmp_total)

access_total : IsTotalOrder access_cmp
access_total = then_total (on_total (λ (a : AccessAt). a.function) nat_cmp_total) (on_total (λ (a : AccessAt). a.instr) nat_cmp_total)

places_equiv : IsEquivalence place_same
places_equiv = and_equiv (on_equiv (λ (p : Place). p.site) nat_eq_equiv) (on_equiv (λ (p : Place). p.class) nat_eq_equiv)

pub accesses_equiv : IsEquivalence access_same
accesses_equiv = and_equiv (on_equiv (λ (a : AccessAt). a.function) nat_eq_equiv) (on_equiv (λ (a : AccessAt). a.instr) nat_eq_equiv)

-- ---- pairs

abbrev pub pair_cmp : Pair → Pair → Ordering
pair_cmp v w = ordering_then (place_cmp v.place w.place) (ordering_then (access_cmp v.first w.first) (access_cmp v.second w.second))

abbrev pub pair_same : Pair → Pair → Bool
pair_same v w = place_same v.place w.place && (access_same v.first w.first && access_same v.second w.second)

pair_total : IsTotalOrder pair_cmp
pair_total = then_total (on_total (λ (v : Pair). v.place) place_total) (then_total (on_total (λ (v : Pair). v.first) access_total) (on_total (λ (v : Pair). v.second) access_total))

pair_lt : (v w : Pair) → is_lt (pair_cmp v w) ≡ pair_less v w
pair_lt v w =
    both_lt (place_cmp v.place w.place) (ordering_then (access_cmp v.first w.first) (access_cmp v.second w.second)) (place_less v.place w.place) (place_same v.place w.place) (access_less v.first w.first || (access_same v.first w.first && access_less v.second w.second)) (place_lt v.place w.place) (place_eq v.place w.place)
    (both_lt (access_cmp v.first w.first) (access_cmp v.second w.second) (access_less v.first w.first) (access_same v.first w.first) (access_less v.second w.second) (access_lt v.first w.first) (access_eq v.first w.first) (access_lt v.second w.second))

pub pair_eq : (v w : Pair) → pair_same v w ≡ eq_by_cmp pair_cmp v w
pair_eq v w =
    sym
    (both_eq (place_cmp v.place w.place) (ordering_then (access_cmp v.first w.first) (access_cmp v.second w.second)) (place_same v.place w.place) (access_same v.first w.first && access_same v.second w.second) (place_eq v.place w.place)
    (both_eq (access_cmp v.first w.first) (access_cmp v.second w.second) (access_same v.first w.first) (access_same v.second w.second) (access_eq v.first w.first) (access_eq v.second w.second)))

both_and : (p q : Bool) → p ≡ true → q ≡ true → p && q ≡ true
both_and true q h k = k
both_and false q h k = cc

strictly : (vs : List Pair) → IsStrictlySortedBy pair_cmp vs → pairs_ascend vs ≡ true
unfolding IsStrictlySortedBy
strictly [] h = refl
strictly (v ∷ []) h = refl
strictly (v ∷ w ∷ vs) h = both_and (pair_less v w) (pairs_ascend (w ∷ vs)) (sym (pair_lt v w) ∙ ap is_lt h.0.0) (strictly (w ∷ vs) h.1)

deduped_ascend : (vs : List Pair) → IsSorted pair_cmp vs → pairs_ascend (dedup pair_same vs) ≡ true
deduped_ascend vs h = strictly (dedup pair_same vs) (IsStrictlySortedBy-dedup pair_total pair_eq vs h)

-- the same order, as a key of three parts has it
abbrev pub key_cmp : Pair → Pair → Ordering
key_cmp v w = ordering_then (ordering_then (place_cmp v.place w.place) (access_cmp v.first w.first)) (access_cmp v.second w.second)

regrouped : (a b o : Ordering) → ordering_then a (ordering_then b o) ≡ ordering_then (ordering_then a b) o
regrouped Less b o = refl
regrouped Equal b o = refl
regrouped Greater b o = refl

pub deduped_ascend_by_key : (vs : List Pair) → IsSorted key_cmp vs → pairs_ascend (dedup pair_same vs) ≡ true
deduped_ascend_by_key vs h = deduped_ascend vs (λ k d le lt. ap is_lt (same (get_or vs (k + 1) d) (get_or vs k d)) ∙ h k d le lt)
  where
    same : (v w : Pair) → pair_cmp v w ≡ key_cmp v w
    same v w = regrouped (place_cmp v.place w.place) (access_cmp v.first w.first) (access_cmp v.second w.second)

pairs_equiv : IsEquivalence pair_same
pairs_equiv = and_equiv (on_equiv (λ (v : Pair). v.place) places_equiv) (and_equiv (on_equiv (λ (v : Pair). v.first) accesses_equiv) (on_equiv (λ (v : Pair). v.second) accesses_equiv))

and_parts : (p q : Bool) → p && q ≡ true → (p ≡ true) × (q ≡ true)
and_parts true q h = (refl, h)
and_parts false q h = cc

same_pair : (v w : Pair) → pair_same v w ≡ true → v ≡ w
same_pair v w h =
    let m = and_parts (place_same v.place w.place) (access_same v.first w.first && access_same v.second w.second) h in
    let n = and_parts (access_same v.first w.first) (access_same v.second w.second) m.1 in
    let e = orders_places.same_is v.place w.place m.0 in
    let f = orders_accesses.same_is v.first w.first n.0 in
    let s = orders_accesses.same_is v.second w.second n.1 in
    λ i. record { place = e i; first = f i; second = s i }

-- a sort and then a removal of repetitions keeps what a list has
pub deduped_same : (xs ys zs : List Pair) → zs ≡ dedup pair_same ys → IsPermutation xs ys → (p : Pair) → Contains zs p ↔ Contains xs p
deduped_same xs ys zs e perm p = (
  λ h. Contains-permutation ys xs p (IsPermutation-sym xs ys perm) (Contains-from_dedup pair_same ys p (subst (λ (vs : List Pair). Contains vs p) e h)),
  λ h. subst (λ (vs : List Pair). Contains vs p) (sym e) (Contains-dedup pairs_equiv same_pair ys p (Contains-permutation xs ys p perm h)),
)
