-- Accesses that ascend.
use Rattle.std.proofs.Common.{◌≡◌, ℕ, zero, suc, ◌+◌, ◌-◌, ◌<◌, ◌≤◌, Bool, true, false, cond, ◌&&◌, ◌||◌, List, [], ◌∷◌, length, get_or, refl, sym, ap, subst, ◌∙◌, arith, Ordering, ◌⊎◌, inl, inr, ⊎_elim}
use Rattle.std.specs.Prelude.{nat_lt, ◌==◌}
use Rattle.std.specs.Cmp.{IsTotalOrder}
use Rattle.std.specs.List.{list_any, filter, dedup, dedup_from}
use Rattle.std.specs.List.Sorted.{IsPartitionedBy, IsStrictlySortedBy, IsSorted}
use Rattle.std.specs.Ordering.{nat_cmp, ordering_then, is_eq, eq_by_cmp}
use Rattle.std.specs.declared.cmp.Ordering.TheVariants.{Less, Equal, Greater}
use Rattle.std.proofs.lemmas.Bool.{cases_lt}
use Rattle.std.proofs.lemmas.Bool.Decides.{nat_tests}
use Rattle.std.proofs.lemmas.Cmp.{then_total, on_total, nat_cmp_total}
use Rattle.std.proofs.lemmas.List.Folds.{list_any_at}
use Rattle.std.proofs.lemmas.List.Kept.{IsStrictlySortedBy-dedup}
use Rattle.facts.specs.declared.pair.AccessAt.{AccessAt}
use Rattle.facts.specs.Pairs.{access_less, access_same}
use Rattle.grain_choice.specs.Listed.{is_listed, ascend}
use Rattle.grain_choice.proofs.Bools.{either, alike, and_both, both_and}

-- ---- the order of accesses

pub irr : (a : AccessAt) → access_less a a ≡ true → ⊥
irr a e = absurd (grind (arith, nat_tests, e))

pub along : (a b c : AccessAt) → access_less a b ≡ true → access_less b c ≡ true → access_less a c ≡ true
along a b c d e = grind (arith, nat_tests, d, e)

pub same_is : (a b : AccessAt) → access_same a b ≡ true → a ≡ b
same_is a b h =
    let m = and_both (a.function == b.function) (a.instr == b.instr) h in
    let e : a.function ≡ b.function = grind (arith, nat_tests, m.0) in
    let f : a.instr ≡ b.instr = grind (arith, nat_tests, m.1) in
    λ i. record { function = e i; instr = f i }

pub same_self : (a : AccessAt) → access_same a a ≡ true
same_self a = both_and (a.function == a.function) (a.instr == a.instr) (grind (arith, nat_tests)) (grind (arith, nat_tests))

-- ---- by places

-- an access that is listed stands at a place
pub place_in : (bs : List AccessAt) (a : AccessAt) → is_listed bs a ≡ true → (k : ℕ) × (k < length bs) × ((d : AccessAt) → get_or bs k d ≡ a)
place_in [] a h = cc
place_in (b ∷ bs) a h = go (either (access_same b a)) h (λ k. place_in bs a k)
  where
    later : (p r : Bool) → p ≡ false → p || r ≡ true → r ≡ true
    later true r e h = cc
    later false r e h = h

    go : (access_same b a ≡ true) ⊎ (access_same b a ≡ false) → access_same b a || is_listed bs a ≡ true → (is_listed bs a ≡ true → (k : ℕ) × (k < length bs) × ((d : AccessAt) → get_or bs k d ≡ a)) → (k : ℕ) × (k < length (b ∷ bs)) × ((d : AccessAt) → get_or (b ∷ bs) k d ≡ a)
    go (inl e) h rec = (zero, omega arith, λ d. same_is b a e)
    go (inr e) h rec = let r = rec (later (access_same b a) (is_listed bs a) e h) in (suc r.0, omega (arith, r.1), λ d. r.2 d)

-- and the other way round
pub listed_at : (bs : List AccessAt) (k : ℕ) (d : AccessAt) → k < length bs → is_listed bs (get_or bs k d) ≡ true
listed_at bs k d lt = list_any_at (λ b. access_same b (get_or bs k d)) bs k d lt (same_self (get_or bs k d))

rises : (bs : List AccessAt) → ascend bs ≡ true → (k : ℕ) (d : AccessAt) → k + 1 < length bs → access_less (get_or bs k d) (get_or bs (k + 1) d) ≡ true
rises [] h k d lt = absurd (omega arith)
rises (a ∷ []) h k d lt = absurd (omega arith)
rises (a ∷ b ∷ bs) h zero d lt = (and_both (access_less a b) (ascend (b ∷ bs)) h).0
rises (a ∷ b ∷ bs) h (suc k) d lt = let e : suc (k + 1) ≡ suc k + 1 = omega arith in subst (λ n. access_less (get_or (b ∷ bs) k d) (get_or (a ∷ b ∷ bs) n d) ≡ true) e (rises (b ∷ bs) (and_both (access_less a b) (ascend (b ∷ bs)) h).1 k d (omega arith))

rises_far : (bs : List AccessAt) → ascend bs ≡ true → (k n : ℕ) (d : AccessAt) → k + (n + 1) < length bs → access_less (get_or bs k d) (get_or bs (k + (n + 1)) d) ≡ true
rises_far bs up k zero d lt = rises bs up k d lt
rises_far bs up k (suc n) d lt =
    let e : (k + (n + 1)) + 1 ≡ k + (suc n + 1) = omega arith in
    along (get_or bs k d) (get_or bs (k + (n + 1)) d) (get_or bs (k + (suc n + 1)) d)
    (rises_far bs up k n d (omega arith))
    (subst (λ j. access_less (get_or bs (k + (n + 1)) d) (get_or bs j d) ≡ true) e (rises bs up (k + (n + 1)) d (omega arith)))

pub far : (bs : List AccessAt) → ascend bs ≡ true → (i j : ℕ) (d : AccessAt) → i < j → j < length bs → access_less (get_or bs i d) (get_or bs j d) ≡ true
far bs up i j d l lt = let e : i + ((j - i - 1) + 1) ≡ j = omega arith in subst (λ k. access_less (get_or bs i d) (get_or bs k d) ≡ true) e (rises_far bs up i (j - i - 1) d (omega arith))

pub partitioned : (bs : List AccessAt) (y : AccessAt) → ascend bs ≡ true → IsPartitionedBy (λ b. access_less b y) bs
partitioned bs y up i j d le lt h =
    ⊎_elim
    (λ (l : i < j). along (get_or bs i d) (get_or bs j d) y (far bs up i j d l lt) h)
    (λ (g : j ≤ i). let e : j ≡ i = omega arith in subst (λ k. access_less (get_or bs k d) y ≡ true) e h)
    (cases_lt i j)

-- an access is listed, if anywhere, where a search for it ends
pub at_place : (bs : List AccessAt) (at : ℕ) (a : AccessAt) → ascend bs ≡ true → ((k : ℕ) (d : AccessAt) → k < at → access_less (get_or bs k d) a ≡ true) → ((k : ℕ) (d : AccessAt) → at ≤ k → k < length bs → access_less (get_or bs k d) a ≡ false) → is_listed bs a ≡ true → (at < length bs) × ((d : AccessAt) → get_or bs at d ≡ a)
at_place bs at a up below above h =
    let r = place_in bs a h in
    ⊎_elim
    (λ (l : r.0 < at). absurd (irr a (subst (λ (z : AccessAt). access_less z a ≡ true) (r.2 a) (below r.0 a l))))
    (λ (g : at ≤ r.0). ⊎_elim
    (λ (m : at < r.0). absurd (let e = above at a (omega arith) (omega (arith, r.1)) in let f = subst (λ (z : AccessAt). access_less (get_or bs at a) z ≡ true) (r.2 a) (far bs up at r.0 a m r.1) in cc))
    (λ (m : r.0 ≤ at). let e : r.0 ≡ at = omega arith in (subst (λ k. k < length bs) e r.1, λ d. subst (λ k. get_or bs k d ≡ a) e (r.2 d)))
    (cases_lt at r.0))
    (cases_lt r.0 at)

pub found : (bs : List AccessAt) (at : ℕ) (a o : AccessAt) → ascend bs ≡ true → ((k : ℕ) (d : AccessAt) → k < at → access_less (get_or bs k d) a ≡ true) → ((k : ℕ) (d : AccessAt) → at ≤ k → k < length bs → access_less (get_or bs k d) a ≡ false) → at < length bs → o ≡ get_or bs at o → access_same o a ≡ is_listed bs a
found bs at a o up below above lt is =
    alike (access_same o a) (is_listed bs a)
    (λ h. let e : o ≡ a = same_is o a h in subst (λ (z : AccessAt). is_listed bs z ≡ true) (sym is ∙ e) (listed_at bs at o lt))
    (λ h. subst (λ (z : AccessAt). access_same z a ≡ true) (sym (is ∙ (at_place bs at a up below above h).1 o)) (same_self a))

pub absent : (bs : List AccessAt) (at : ℕ) (a : AccessAt) → ascend bs ≡ true → ((k : ℕ) (d : AccessAt) → k < at → access_less (get_or bs k d) a ≡ true) → ((k : ℕ) (d : AccessAt) → at ≤ k → k < length bs → access_less (get_or bs k d) a ≡ false) → length bs ≤ at → false ≡ is_listed bs a
absent bs at a up below above le = alike false (is_listed bs a) (λ h. cc) (λ h. absurd (let r = (at_place bs at a up below above h).0 in omega arith))

-- ---- after a sort

abbrev pub access_cmp : AccessAt → AccessAt → Ordering
access_cmp a b = ordering_then (nat_cmp a.function b.function) (nat_cmp a.instr b.instr)

total : IsTotalOrder access_cmp
total = then_total (on_total (λ (a : AccessAt). a.function) nat_cmp_total) (on_total (λ (a : AccessAt). a.instr) nat_cmp_total)

eq_then : (l e : Bool) (o : Ordering) → (l ≡ true → e ≡ false) → e && is_eq o ≡ is_eq (ordering_then (cond l Less (cond e Equal Greater)) o)
eq_then true true o h = let k = h refl in cc
eq_then true false o h = refl
eq_then false true o h = refl
eq_then false false o h = refl

eq_last : (l e : Bool) → (l ≡ true → e ≡ false) → e ≡ is_eq (cond l Less (cond e Equal Greater))
eq_last true true h = let k = h refl in cc
eq_last true false h = refl
eq_last false true h = refl
eq_last false false h = refl

not_both : (m n : ℕ) → nat_lt m n ≡ true → (m == n) ≡ false
not_both m n h = grind (arith, nat_tests, h)

pub ties : (a b : AccessAt) → access_same a b ≡ eq_by_cmp access_cmp a b
ties a b =
    ap (λ z. (a.function == b.function) && z) (eq_last (nat_lt a.instr b.instr) (a.instr == b.instr) (not_both a.instr b.instr))
    ∙ eq_then (nat_lt a.function b.function) (a.function == b.function) (nat_cmp a.instr b.instr) (not_both a.function b.function)

less_then : (l e m f : Bool) → ordering_then (cond l Less (cond e Equal Greater)) (cond m Less (cond f Equal Greater)) ≡ Less → l || (e && m) ≡ true
less_then true e m f h = refl
less_then false true true f h = refl
less_then false true false true h = cc
less_then false true false false h = cc
less_then false false m f h = cc

strictly : (bs : List AccessAt) → IsStrictlySortedBy access_cmp bs → ascend bs ≡ true
unfolding IsStrictlySortedBy
strictly [] h = refl
strictly (a ∷ []) h = refl
strictly (a ∷ b ∷ bs) h = both_and (access_less a b) (ascend (b ∷ bs)) (less_then (nat_lt a.function b.function) (a.function == b.function) (nat_lt a.instr b.instr) (a.instr == b.instr) h.0.0) (strictly (b ∷ bs) h.1)

pub ascend_deduped : (bs : List AccessAt) → IsSorted access_cmp bs → ascend (dedup access_same bs) ≡ true
ascend_deduped bs h = strictly (dedup access_same bs) (IsStrictlySortedBy-dedup total ties bs h)

or_twice : (p q r : Bool) → q ≡ p → p || r ≡ p || (q || r)
or_twice true q r h = refl
or_twice false q r h = ap (λ b. b || r) (sym h)

any_from : (test : AccessAt → Bool) (a : AccessAt) (bs : List AccessAt) → list_any test (dedup_from access_same a bs) ≡ test a || list_any test bs
any_from test a [] = refl
any_from test a (b ∷ bs) = go (access_same b a) refl (any_from test a bs) (any_from test b bs)
  where
    go : (p : Bool) → access_same b a ≡ p → list_any test (dedup_from access_same a bs) ≡ test a || list_any test bs → list_any test (dedup_from access_same b bs) ≡ test b || list_any test bs → list_any test (cond p (dedup_from access_same a bs) (a ∷ dedup_from access_same b bs)) ≡ test a || (test b || list_any test bs)
    go true e f g = f ∙ or_twice (test a) (test b) (list_any test bs) (ap test (same_is b a e))
    go false e f g = ap (λ z. test a || z) g

pub any_deduped : (test : AccessAt → Bool) (bs : List AccessAt) → list_any test (dedup access_same bs) ≡ list_any test bs
any_deduped test [] = refl
any_deduped test (b ∷ bs) = any_from test b bs

-- ---- after a filter

-- it comes before each of them
abbrev Before : AccessAt → List AccessAt → Type 0
Before a [] = Unit {0}
Before a (b ∷ bs) = (access_less a b ≡ true) × Before a bs

abbrev Up : List AccessAt → Type 0
Up [] = Unit {0}
Up (a ∷ bs) = Before a bs × Up bs

before_less : (a b : AccessAt) (bs : List AccessAt) → access_less a b ≡ true → Before b bs → Before a bs
before_less a b [] l h = tt
before_less a b (c ∷ bs) l h = (along a b c l h.0, before_less a b bs l h.1)

up : (bs : List AccessAt) → ascend bs ≡ true → Up bs
up [] h = tt
up (a ∷ []) h = (tt, tt)
up (a ∷ b ∷ bs) h = let m = and_both (access_less a b) (ascend (b ∷ bs)) h in let u = up (b ∷ bs) m.1 in ((m.0, before_less a b bs m.0 u.0), u)

down : (bs : List AccessAt) → Up bs → ascend bs ≡ true
down [] u = refl
down (a ∷ []) u = refl
down (a ∷ b ∷ bs) u = both_and (access_less a b) (ascend (b ∷ bs)) u.0.0 (down (b ∷ bs) u.1)

before_filter : (test : AccessAt → Bool) (a : AccessAt) (bs : List AccessAt) → Before a bs → Before a (filter test bs)
before_filter test a [] h = tt
before_filter test a (b ∷ bs) h = go (test b) (before_filter test a bs h.1)
  where
    go : (p : Bool) → Before a (filter test bs) → Before a (cond p (b ∷ filter test bs) (filter test bs))
    go true rest = (h.0, rest)
    go false rest = rest

up_filter : (test : AccessAt → Bool) (bs : List AccessAt) → Up bs → Up (filter test bs)
up_filter test [] u = tt
up_filter test (b ∷ bs) u = go (test b) (up_filter test bs u.1)
  where
    go : (p : Bool) → Up (filter test bs) → Up (cond p (b ∷ filter test bs) (filter test bs))
    go true rest = (before_filter test b bs u.0, rest)
    go false rest = rest

pub ascend_filter : (test : AccessAt → Bool) (bs : List AccessAt) → ascend bs ≡ true → ascend (filter test bs) ≡ true
ascend_filter test bs h = down (filter test bs) (up_filter test bs (up bs h))
