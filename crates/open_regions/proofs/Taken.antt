-- The open regions after a Take, and the stripes that it has taken.
use Rattle.std.proofs.Common.{◌≡◌, ℕ, zero, suc, ◌+◌, ◌-◌, ◌<◌, ◌≤◌, ◌||◌, Bool, true, false, List, [], ◌∷◌, ◌++◌, length, refl, sym, ap, ◌∙◌, subst, arith, Option, Some, None, ◌⊎◌, inl, inr, ⊎_elim}
use Rattle.std.specs.Prelude.{slice_get, slice_set, if◌then◌else◌, ◌==◌}
use Rattle.std.proofs.lemmas.Bool.{cases_eq}
use Rattle.std.proofs.lemmas.Bool.Decides.{nat_tests}
use Rattle.std.proofs.lemmas.Option.{same_Some}
use Rattle.flow_code.specs.Holding.{number_of_pair, has_stripe, has_stripes, open_ones, with_pairs, after_pair, after_pairs, is_opened_here, latest, latest_with, pairs_at, opened}
use Rattle.flow_code.specs.Stripes.{stripe_of, and_stripe, stripes_from}
use Rattle.flow_code.specs.Threads.{Thread, OpenRegion}
use Rattle.weak_valid.proofs.Accesses.{Each}
use Rattle.guard_paths.proofs.Guarded.{In}
use Rattle.guard_paths.proofs.Opened.{in_filtered, of_filtered, set_other, set_here, of_set, length_set, of_append, in_first, in_second, has_some, number_back}
use Rattle.guard_paths.proofs.Holdings.{last_here}
use Rattle.guard_paths.proofs.Takings.{last_item}
use Rattle.open_regions.proofs.Promises.{taken_at, both_true, two_true}

abbrev fresh_of : Thread → List (ℕ × ℕ) → OpenRegion
fresh_of th xs = record { frame = length th.below; instr = th.top.instr; stripes = xs }

-- ---- the latest open region

-- the test of a Take for its own region
abbrev pub test_of : Thread → Bool
test_of th = last_here (length th.below) th.top.instr (slice_get th.regions (length th.regions - 1))

-- what the latest region is, opened here or not
data Latest (th : Thread) : Type 0 where
  mine : (x : OpenRegion) → slice_get th.regions (length th.regions - 1) ≡ Some x → x.frame ≡ length th.below → x.instr ≡ th.top.instr → test_of th ≡ true → Latest th
  none : test_of th ≡ false → Latest th

find_latest : (th : Thread) → Latest th
find_latest th = by (slice_get th.regions (length th.regions - 1)) refl (test_of th) refl
  where
    by : (o : Option OpenRegion) → slice_get th.regions (length th.regions - 1) ≡ o → (b : Bool) → test_of th ≡ b → Latest th
    by None e true t = let z : last_here (length th.below) th.top.instr None ≡ true = ap (last_here (length th.below) th.top.instr) (sym e) ∙ t in cc
    by (Some x) e true t =
        let u = both_true (x.frame == length th.below) (x.instr == th.top.instr) (ap (last_here (length th.below) th.top.instr) (sym e) ∙ t) in
        mine x e (let y = u.0 in grind (arith, nat_tests, y)) (let y = u.1 in grind (arith, nat_tests, y)) t
    by o e false t = none t

-- the test is the machine's
same_test : (th : Thread) → is_opened_here th (latest th) ≡ test_of th
same_test th = by (slice_get th.regions (length th.regions - 1))
  where
    by : (o : Option OpenRegion) → is_opened_here th o ≡ last_here (length th.below) th.top.instr o
    by None = refl
    by (Some x) = refl

mine_opened : (th : Thread) (x : OpenRegion) (xs : List (ℕ × ℕ)) → slice_get th.regions (length th.regions - 1) ≡ Some x → test_of th ≡ true → opened th xs ≡ slice_set th.regions (length th.regions - 1) (with_pairs x xs)
mine_opened th x xs e t =
    ap (λ b. if b then latest_with (latest th) xs th.regions else th.regions ++ open_ones (fresh_of th xs ∷ [])) (same_test th ∙ t)
    ∙ ap (λ o. latest_with o xs th.regions) e

none_opened : (th : Thread) (xs : List (ℕ × ℕ)) → test_of th ≡ false → opened th xs ≡ th.regions ++ open_ones (fresh_of th xs ∷ [])
none_opened th xs t = ap (λ b. if b then latest_with (latest th) xs th.regions else th.regions ++ open_ones (fresh_of th xs ∷ [])) (same_test th ∙ t)

mine_taken : (th : Thread) (x : OpenRegion) → slice_get th.regions (length th.regions - 1) ≡ Some x → test_of th ≡ true → taken_at (length th.below) th.top.instr th.regions ≡ x.stripes
mine_taken th x e t = ap (λ b. if b then pairs_at (slice_get th.regions (length th.regions - 1)) else []) t ∙ ap pairs_at e

-- ---- what becomes of the open regions

-- each region stays, with no fewer pairs
pub opened_keeps : (th : Thread) (xs : List (ℕ × ℕ)) → ((n : ℕ) → has_stripe (taken_at (length th.below) th.top.instr th.regions) n ≡ true → has_stripe xs n ≡ true) → (y : OpenRegion) (n : ℕ) → In y th.regions → has_stripe y.stripes n ≡ true → (z : OpenRegion) × In z (opened th xs) × (z.frame ≡ y.frame) × (z.instr ≡ y.instr) × (has_stripe z.stripes n ≡ true)
opened_keeps th xs more y n i h = by (find_latest th)
  where
    by : Latest th → (z : OpenRegion) × In z (opened th xs) × (z.frame ≡ y.frame) × (z.instr ≡ y.instr) × (has_stripe z.stripes n ≡ true)
    by (none t) = (y, subst (λ qs. In y qs) (sym (none_opened th xs t)) (in_first th.regions (open_ones (fresh_of th xs ∷ [])) y i), refl, refl, h)
    by (mine x e f w t) = ⊎_elim
        (λ (q : i.0 ≡ length th.regions - 1).
        let z : y ≡ x = same_Some y x (sym i.1 ∙ ap (slice_get th.regions) q ∙ e) in (
          with_pairs x xs,
          subst (λ qs. In (with_pairs x xs) qs) (sym (mine_opened th x xs e t)) (length th.regions - 1, set_here th.regions (length th.regions - 1) x (with_pairs x xs) e),
          ap (λ (u : OpenRegion). u.frame) (sym z),
          ap (λ (u : OpenRegion). u.instr) (sym z),
          more n (ap (λ ps. has_stripe ps n) (mine_taken th x e t ∙ ap (λ (u : OpenRegion). u.stripes) (sym z)) ∙ h),
        ))
        (λ q. (y, subst (λ qs. In y qs) (sym (mine_opened th x xs e t)) (i.0, set_other th.regions (length th.regions - 1) i.0 y (with_pairs x xs) i.1 q), refl, refl, h))
        (cases_eq i.0 (length th.regions - 1))

-- the region of the Take has these pairs
pub opened_new : (th : Thread) (xs : List (ℕ × ℕ)) (n : ℕ) → has_stripe xs n ≡ true → (z : OpenRegion) × In z (opened th xs) × (z.frame ≡ length th.below) × (z.instr ≡ th.top.instr) × (z.stripes ≡ xs)
opened_new th xs n h = by (find_latest th)
  where
    by : Latest th → (z : OpenRegion) × In z (opened th xs) × (z.frame ≡ length th.below) × (z.instr ≡ th.top.instr) × (z.stripes ≡ xs)
    by (none t) = (fresh_of th xs, subst (λ qs. In (fresh_of th xs) qs) (sym (none_opened th xs t)) (in_second th.regions (open_ones (fresh_of th xs ∷ [])) (fresh_of th xs) (in_filtered has_stripes (fresh_of th xs) (fresh_of th xs ∷ []) (0, refl) (has_some (fresh_of th xs) n h))), refl, refl, refl)
    by (mine x e f w t) = (with_pairs x xs, subst (λ qs. In (with_pairs x xs) qs) (sym (mine_opened th x xs e t)) (length th.regions - 1, set_here th.regions (length th.regions - 1) x (with_pairs x xs) e), f, w, refl)

-- no other region comes
pub opened_from : (th : Thread) (xs : List (ℕ × ℕ)) (z : OpenRegion) → In z (opened th xs) → ((y : OpenRegion) × In y th.regions × (z.frame ≡ y.frame) × (z.instr ≡ y.instr)) ⊎ (z.instr ≡ th.top.instr)
opened_from th xs z i = by (find_latest th)
  where
    fresh : In z (fresh_of th xs ∷ []) → z.instr ≡ th.top.instr
    fresh (zero, h) = ap (λ (u : OpenRegion). u.instr) (sym (same_Some (record { frame = length th.below; instr = th.top.instr; stripes = xs }) z h))
    fresh (suc k, h) = cc

    by : Latest th → ((y : OpenRegion) × In y th.regions × (z.frame ≡ y.frame) × (z.instr ≡ y.instr)) ⊎ (z.instr ≡ th.top.instr)
    by (none t) = ⊎_elim (λ j. inl (z, j, refl, refl)) (λ j. inr (fresh (of_filtered has_stripes z (fresh_of th xs ∷ []) j).0)) (of_append th.regions (open_ones (fresh_of th xs ∷ [])) z (subst (λ qs. In z qs) (none_opened th xs t) i))
    by (mine x e f w t) = ⊎_elim (λ (q : z ≡ with_pairs x xs). inr (ap (λ (u : OpenRegion). u.instr) q ∙ w)) (λ j. inl (z, j, refl, refl)) (of_set th.regions (length th.regions - 1) z (with_pairs x xs) (subst (λ qs. In z qs) (mine_opened th x xs e t) i))

here_taken : (n w : ℕ) (rs : List OpenRegion) (x : OpenRegion) → slice_get rs (length rs - 1) ≡ Some x → x.frame ≡ n → x.instr ≡ w → taken_at n w rs ≡ x.stripes
here_taken n w rs x e f g =
    let t : last_here n w (Some x) ≡ true = two_true (x.frame == n) (x.instr == w) (grind (arith, nat_tests, f)) (grind (arith, nat_tests, g)) in
    ap (λ o. if last_here n w o then pairs_at o else []) e ∙ ap (λ b. if b then x.stripes else []) t

-- the Take has these pairs, if there are any
pub opened_taken : (th : Thread) (xs : List (ℕ × ℕ)) (n : ℕ) → has_stripe xs n ≡ true → taken_at (length th.below) th.top.instr (opened th xs) ≡ xs
opened_taken th xs n h = by (find_latest th)
  where
    by : Latest th → taken_at (length th.below) th.top.instr (opened th xs) ≡ xs
    by (none t) =
        ap (taken_at (length th.below) th.top.instr) (none_opened th xs t ∙ ap (λ zs. th.regions ++ zs) (ap (λ b. if b then fresh_of th xs ∷ [] else []) (has_some (fresh_of th xs) n h)))
        ∙ here_taken (length th.below) th.top.instr (th.regions ++ fresh_of th xs ∷ []) (fresh_of th xs) (last_item th.regions (fresh_of th xs)) refl refl
    by (mine x e f w t) =
        ap (taken_at (length th.below) th.top.instr) (mine_opened th x xs e t)
        ∙ here_taken (length th.below) th.top.instr (slice_set th.regions (length th.regions - 1) (with_pairs x xs)) (with_pairs x xs)
        (let l : length (slice_set th.regions (length th.regions - 1) (with_pairs x xs)) - 1 ≡ length th.regions - 1 = omega (arith, length_set th.regions (length th.regions - 1) (with_pairs x xs)) in ap (slice_get (slice_set th.regions (length th.regions - 1) (with_pairs x xs))) l ∙ set_here th.regions (length th.regions - 1) x (with_pairs x xs) e) f w

-- ---- lists of stripes

pub past_more : (x y : ℕ × ℕ) (zs : List (ℕ × ℕ)) → after_pairs (x ∷ y ∷ zs) ≡ after_pairs (y ∷ zs)
past_more x y zs = let e : length (x ∷ y ∷ zs) - 1 ≡ suc (length (y ∷ zs) - 1) = omega arith in ap (λ n. after_pair (slice_get (x ∷ y ∷ zs) n)) e

pub after_append : (m : ℕ) (xs ys : List (ℕ × ℕ)) → after_pairs xs ≤ m → after_pairs ys ≤ m → after_pairs (xs ++ ys) ≤ m
after_append m [] ys h k = k
after_append m (x ∷ []) [] h k = h
after_append m (x ∷ []) (y ∷ ys) h k = omega (arith, k, past_more x y ys)
after_append m (x ∷ z ∷ xs) ys h k = omega (arith, past_more x z (xs ++ ys), after_append m (z ∷ xs) ys (omega (arith, h, past_more x z xs)) k)

after_under : (m : ℕ) (xs : List (ℕ × ℕ)) → Each (λ x. number_of_pair x < m) xs → after_pairs xs ≤ m
after_under m [] h = omega arith
after_under m (x ∷ []) h = omega (arith, h.0)
after_under m (x ∷ y ∷ ys) h = omega (arith, past_more x y ys, after_under m (y ∷ ys) h.1)

from_under : (p : ℕ → Bool) (m k b : ℕ) → k + m ≤ b → Each (λ x. number_of_pair x < b) (stripes_from p m k)
from_under p zero k b le = tt
from_under p (suc m) k b le = by (p k) (from_under p m (k + 1) b (omega (arith, le)))
  where
    by : (c : Bool) → Each (λ x. number_of_pair x < b) (stripes_from p m (k + 1)) → Each (λ x. number_of_pair x < b) (and_stripe c k (stripes_from p m (k + 1)))
    by true e = (omega (arith, le, number_back k), e)
    by false e = e

pub after_from : (p : ℕ → Bool) (m k b : ℕ) → k + m ≤ b → after_pairs (stripes_from p m k) ≤ b
after_from p m k b le = after_under b (stripes_from p m k) (from_under p m k b le)

-- what is among them passes and is one of the numbers
pub of_from : (p : ℕ → Bool) (m k n : ℕ) → has_stripe (stripes_from p m k) n ≡ true → (p n ≡ true) × (k ≤ n) × (n < k + m)
of_from p zero k n h = cc
of_from p (suc m) k n h = by (p k) refl h (λ e. of_from p m (k + 1) n e)
  where
    more : (p n ≡ true) × (k + 1 ≤ n) × (n < k + 1 + m) → (p n ≡ true) × (k ≤ n) × (n < k + suc m)
    more r = (r.0, omega (arith, r.1), omega (arith, r.2))

    first : (c : Bool) → (number_of_pair (stripe_of k) == n) ≡ c → p k ≡ true → (c || has_stripe (stripes_from p m (k + 1)) n) ≡ true → (has_stripe (stripes_from p m (k + 1)) n ≡ true → (p n ≡ true) × (k + 1 ≤ n) × (n < k + 1 + m)) → (p n ≡ true) × (k ≤ n) × (n < k + suc m)
    first true t e h rec =
        let z : number_of_pair (stripe_of k) ≡ n = grind (arith, nat_tests, t) in
        let q : k ≡ n = sym (number_back k) ∙ z in
        (subst (λ i. p i ≡ true) q e, omega (arith, q), omega (arith, q))
    first false t e h rec = more (rec h)

    by : (c : Bool) → p k ≡ c → has_stripe (and_stripe c k (stripes_from p m (k + 1))) n ≡ true → (has_stripe (stripes_from p m (k + 1)) n ≡ true → (p n ≡ true) × (k + 1 ≤ n) × (n < k + 1 + m)) → (p n ≡ true) × (k ≤ n) × (n < k + suc m)
    by true e h rec = first (number_of_pair (stripe_of k) == n) refl e h rec
    by false e h rec = more (rec h)
