-- The weak locks of a weakened code.
use Rattle.std.proofs.Common.{◌≡◌, ℕ, zero, suc, ◌+◌, ◌*◌, ◌<◌, ◌≤◌, ◌&&◌, ◌||◌, Bool, true, false, List, [], ◌∷◌, length, refl, ap, ◌∙◌, subst, arith, Option, Some, None}
use Rattle.std.specs.Prelude.{slice_get, if◌then◌else◌, nat_le, nat_lt, ◌==◌}
use Rattle.std.specs.List.{Contains}
use Rattle.std.proofs.lemmas.Bool.Decides.{nat_tests}
use Rattle.rr_base.specs.declared.layout.Place.{Place}
use Rattle.rr_base.specs.declared.layout.Site.{Site}
use Rattle.flow_code.specs.declared.code.Code.{Code}
use Rattle.flow_code.specs.Kinds.{is_site}
use Rattle.flow_code.specs.Regions.{lock_fits}
use Rattle.flow_code.specs.Valid.{most_locks, all_locks_fit}
use Rattle.facts.specs.declared.pair.AccessAt.{AccessAt}
use Rattle.facts.specs.declared.pair.Pair.{Pair}
use Rattle.facts.specs.declared.constraint.Node.TheVariants.{Register}
use Rattle.facts.specs.Accesses.{Access}
use Rattle.facts.specs.Pairs.{place_less, place_same, access_less, access_same, pair_less, pairs_ascend, access_in, act_of, places_through, places_of}
use Rattle.facts.specs.PointsTo.{Tables, is_before, are_ascending, element_of, MayPoint, IsPointsTo}
use Rattle.weak_lock_facts.specs.declared.grain.Grained.{Grained}
use Rattle.weak_code.specs.WeakLocks.{comes_again, places_in, is_striped, lock_for, locks_for}
use Rattle.weak_valid.proofs.Tests.{both, two}
use Rattle.weak_valid.proofs.PlacesFit.{IsPlaceOf, few_classes}

-- ---- what holds of the place of each pair holds of each place with a lock

pub places_all : (P : Place → Type 0) (vs : List Pair) → ((k : ℕ) (v : Pair) → slice_get vs k ≡ Some v → P v.place) → (k : ℕ) (p : Place) → slice_get (places_in vs) k ≡ Some p → P p
places_all P [] h k p g = cc
places_all P (v ∷ vs) h k p g = go (comes_again v.place vs) k g (λ j e. places_all P vs (λ i w f. h (suc i) w f) j p e)
  where
    go : (b : Bool) (k : ℕ) → slice_get (if b then places_in vs else v.place ∷ places_in vs) k ≡ Some p → ((j : ℕ) → slice_get (places_in vs) j ≡ Some p → P p) → P p
    go true k g r = r k g
    go false zero g r = let e : v.place ≡ p = cc in subst P e (h 0 v refl)
    go false (suc k) g r = r k g

-- ---- they ascend

same_place : (p q : Place) → place_same p q ≡ true → p ≡ q
same_place p q h =
    let b = both (p.site == q.site) (p.class == q.class) h in
    let s : p.site ≡ q.site = grind (arith, nat_tests, b.0) in
    let c : p.class ≡ q.class = grind (arith, nat_tests, b.1) in
    ap (λ z. made z p.class) s ∙ ap (λ z. made q.site z) c
  where
    made : ℕ → ℕ → Place
    made s c = record { site = s; class = c }

-- the place is before the first of these
abbrev IsAhead : Place → List Place → Type 0
IsAhead p [] = Unit {0}
IsAhead p (q ∷ qs) = is_before p q ≡ true

first_place : (p : Place) (v : Pair) (vs : List Pair) → is_before p v.place ≡ true → IsAhead p (places_in (v ∷ vs))
first_place p v [] h = h
first_place p v (w ∷ vs) h = go (place_same v.place w.place) refl (λ b. first_place p w vs b)
  where
    go : (b : Bool) → place_same v.place w.place ≡ b → (is_before p w.place ≡ true → IsAhead p (places_in (w ∷ vs))) → IsAhead p (if b then places_in (w ∷ vs) else v.place ∷ places_in (w ∷ vs))
    go true e r = r (subst (λ z. is_before p z ≡ true) (same_place v.place w.place e) h)
    go false e r = h

pair_before : (v w : Pair) → pair_less v w ≡ true → place_same v.place w.place ≡ false → is_before v.place w.place ≡ true
pair_before v w h s = go (place_less v.place w.place) refl h
  where
    go : (b : Bool) → place_less v.place w.place ≡ b → (b || (place_same v.place w.place && (access_less v.first w.first || (access_same v.first w.first && access_less v.second w.second)))) ≡ true → is_before v.place w.place ≡ true
    go true e h = e
    go false e h = let f = ap (λ c. c && (access_less v.first w.first || (access_same v.first w.first && access_less v.second w.second))) s in cc

ahead_ascends : (p : Place) (ps : List Place) → IsAhead p ps → are_ascending ps ≡ true → are_ascending (p ∷ ps) ≡ true
ahead_ascends p [] a h = refl
ahead_ascends p (q ∷ qs) a h = two (is_before p q) (are_ascending (q ∷ qs)) a h

pub places_ascend : (vs : List Pair) → pairs_ascend vs ≡ true → are_ascending (places_in vs) ≡ true
places_ascend [] h = refl
places_ascend (v ∷ []) h = refl
places_ascend (v ∷ w ∷ vs) h = let b = both (pair_less v w) (pairs_ascend (w ∷ vs)) h in go (place_same v.place w.place) refl b.0 (places_ascend (w ∷ vs) b.1)
  where
    go : (b : Bool) → place_same v.place w.place ≡ b → pair_less v w ≡ true → are_ascending (places_in (w ∷ vs)) ≡ true → are_ascending (if b then places_in (w ∷ vs) else v.place ∷ places_in (w ∷ vs)) ≡ true
    go true e l r = r
    go false e l r = ahead_ascends v.place (places_in (w ∷ vs)) (first_place v.place w vs (pair_before v w l e)) r

-- ---- so they are few

number : Place → ℕ
number p = p.site * 64 + p.class

number_grows : (p q : Place) → p.class < 64 → is_before p q ≡ true → number p < number q
unfolding number
number_grows p q lt h = go (nat_lt p.site q.site) refl h
  where
    go : (b : Bool) → nat_lt p.site q.site ≡ b → (b || ((p.site == q.site) && nat_lt p.class q.class)) ≡ true → p.site * 64 + p.class < q.site * 64 + q.class
    go true e h = let l : p.site < q.site = grind (arith, nat_tests, e) in omega arith
    go false e h =
        let b = both (p.site == q.site) (nat_lt p.class q.class) h in
        let s : p.site ≡ q.site = grind (arith, nat_tests, b.0) in
        let c : p.class < q.class = grind (arith, nat_tests, b.1) in
        omega arith

-- from the first on there is room for each
few_from : (sites : List Site) (p : Place) (ps : List Place) → length sites ≤ 1023 → ((k : ℕ) (q : Place) → slice_get (p ∷ ps) k ≡ Some q → IsPlaceOf sites q) → are_ascending (p ∷ ps) ≡ true → number p + length (p ∷ ps) ≤ 64 + most_locks
unfolding number
few_from sites p [] few all h = let a = all 0 p refl in omega (arith, a.1, a.2, few_classes (element_of sites p.site))
few_from sites p (q ∷ ps) few all h =
    let b = both (is_before p q) (are_ascending (q ∷ ps)) h in
    let a = all 0 p refl in
    let r = few_from sites q ps few (λ k x g. all (suc k) x g) b.1 in
    omega (arith, number_grows p q (omega (arith, a.2, few_classes (element_of sites p.site))) b.0, r)

pub few_places : (sites : List Site) (ps : List Place) → length sites ≤ 1023 → ((k : ℕ) (q : Place) → slice_get ps k ≡ Some q → IsPlaceOf sites q) → are_ascending ps ≡ true → length ps ≤ most_locks
unfolding number
few_places sites [] few all h = omega arith
few_places sites (p ∷ ps) few all h = let a = all 0 p refl in omega (arith, few_from sites p ps few all h, a.0)

-- ---- the places of pairs are places of the code

pub pointed : (code : Code) (t : Tables) → IsPointsTo code t → ((f r : ℕ) (p : Place) → MayPoint code (Register f r) p → IsPlaceOf code.sites p) → (a : AccessAt) (p : Place) → Contains (places_of code t a) p → IsPlaceOf code.sites p
pointed code t h place a p c = go (access_in (act_of code a)) c
  where
    go : (o : Option Access) → Contains (places_through t a.function o) p → IsPlaceOf code.sites p
    go None (k, lt, e) = absurd (omega arith)
    go (Some x) c = place a.function x.through p (((h.of_registers a.function x.through).of p).0 c)

-- ---- each lock fits

lock_is_fit : (code other : Code) (t : Tables) (rows : List Grained) (p : Place) → other.sites ≡ code.sites → IsPlaceOf code.sites p → lock_fits other (lock_for code t rows p) ≡ true
lock_is_fit code other t rows p e h =
    let l : nat_le 1 p.site ≡ true = grind (arith, nat_tests, h.0) in
    let m : p.site ≤ length other.sites = omega (arith, ap (λ (z : List Site). length z) e, h.1) in
    let n : nat_le p.site (length other.sites) ≡ true = grind (arith, nat_tests, m) in
    two (is_site other p.site) (((if is_striped code t rows p then 8 else 1) == 1) || ((if is_striped code t rows p then 8 else 1) == 8))
    (two (nat_le 1 p.site) (nat_le p.site (length other.sites)) l n) (stripes (is_striped code t rows p))
  where
    stripes : (b : Bool) → (((if b then 8 else 1) == 1) || ((if b then 8 else 1) == 8)) ≡ true
    stripes true = refl
    stripes false = refl

pub locks_are_fit : (code other : Code) (t : Tables) (rows : List Grained) (ps : List Place) → other.sites ≡ code.sites → ((k : ℕ) (q : Place) → slice_get ps k ≡ Some q → IsPlaceOf code.sites q) → all_locks_fit other (locks_for code t rows ps) ≡ true
locks_are_fit code other t rows [] e h = refl
locks_are_fit code other t rows (p ∷ ps) e h = two (lock_fits other (lock_for code t rows p)) (all_locks_fit other (locks_for code t rows ps)) (lock_is_fit code other t rows p e (h 0 p refl)) (locks_are_fit code other t rows ps e (λ k q g. h (suc k) q g))
