-- In how many open regions a stripe is, after each change of the regions and their stripes.
use Rattle.std.proofs.Common.{◌≡◌, ℕ, zero, suc, ◌+◌, ◌<◌, ◌≤◌, ◌==◌, ◌&&◌, ◌||◌, not, ⊎_elim, Bool, true, false, cond, if◌then◌else◌, List, [], ◌∷◌, ◌++◌, length, map, Some, None, refl, sym, ap, subst, ◌∙◌, arith, eq-eqb, ne_eqb, eqb-true}
use Rattle.std.specs.Prelude.{filter, slice_get, slice_set}
use Rattle.std.proofs.lemmas.Bool.{cases_eq, true≢false}
use Rattle.std.proofs.lemmas.List.Folds.{list_any-append}
use Rattle.std.proofs.lemmas.List.Sums.{sum_by-cons, sum_by_push, sum_by-set, get_or-le-sum_by}
use Rattle.std.proofs.lemmas.Option.{slice_get_within, get_or_from_slice_get}
use Rattle.flow_code.specs.Holding.{number_of_pair, has_stripe, nesting, open_ones, with_pairs}
use Rattle.flow_code.specs.Threads.{OpenRegion}
use Rattle.flow_code.specs.Stripes.{stripe_of, first_from, and_stripe, stripes_from}
use Rattle.lock_ownership.specs.ThreadStripes.{AscendFrom}

abbrev pub bit : Bool → ℕ
bit b = cond b 1 0

-- ---- pairs

abbrev pub Pairs : ℕ → List (ℕ × ℕ) → Type 0
Pairs n xs = AscendFrom number_of_pair (λ x. x.1) n xs

pub has_append : (xs ys : List (ℕ × ℕ)) (n : ℕ) → has_stripe (xs ++ ys) n ≡ (has_stripe xs n || has_stripe ys n)
has_append xs ys n = list_any-append (λ x. number_of_pair x == n) xs ys

pub none_below : (m n : ℕ) (xs : List (ℕ × ℕ)) → n < m → Pairs m xs → has_stripe xs n ≡ false
none_below m n [] lt h = refl
none_below m n (x ∷ xs) lt h = let at = h.0 in ap (λ b. b || has_stripe xs n) (ne_eqb (number_of_pair x) n (λ e. absurd (omega arith))) ∙ none_below (number_of_pair x + 1) n xs (omega arith) h.2

-- those of which something holds by their number
pub has_filter : (p : ℕ → Bool) (xs : List (ℕ × ℕ)) (n : ℕ) → has_stripe (filter (λ x. p (number_of_pair x)) xs) n ≡ (has_stripe xs n && p n)
has_filter p [] n = refl
has_filter p (x ∷ xs) n = by (number_of_pair x == n) (p (number_of_pair x)) refl refl (has_filter p xs n)
  where
    and_true : (b : Bool) → (b || false) ≡ b
    and_true true = refl
    and_true false = refl

    true_or : (b : Bool) → p n ≡ true → true ≡ (true && p n)
    true_or b e = sym e

    or_same : (h : Bool) → p n ≡ false → (h && p n) ≡ false
    or_same true e = e
    or_same false e = refl

    by : (b c : Bool) → number_of_pair x == n ≡ b → p (number_of_pair x) ≡ c → has_stripe (filter (λ y. p (number_of_pair y)) xs) n ≡ (has_stripe xs n && p n) → has_stripe (if c then x ∷ filter (λ y. p (number_of_pair y)) xs else filter (λ y. p (number_of_pair y)) xs) n ≡ ((b || has_stripe xs n) && p n)
    by true true q r e = ap (λ b. b || has_stripe (filter (λ y. p (number_of_pair y)) xs) n) q ∙ sym r ∙ ap p (eqb-true (number_of_pair x) n q)
    by true false q r e =
        let off : p n ≡ false = ap p (sym (eqb-true (number_of_pair x) n q)) ∙ r in
        e ∙ or_same (has_stripe xs n) off ∙ sym off
    by false true q r e = ap (λ b. b || has_stripe (filter (λ y. p (number_of_pair y)) xs) n) q ∙ e
    by false false q r e = e

pub has_some : (xs : List (ℕ × ℕ)) (n : ℕ) → has_stripe xs n ≡ true → 0 < length xs
has_some [] n e = cc
has_some (x ∷ xs) n e = omega arith

-- ---- pairs from one number on

pub from_sorted : (p : ℕ → Bool) (many k : ℕ) → Pairs k (stripes_from p many k)
from_sorted p zero k = tt
from_sorted p (suc n) k = by (p k) (from_sorted p n (k + 1))
  where
    lower : (m l : ℕ) (xs : List (ℕ × ℕ)) → m ≤ l → Pairs l xs → Pairs m xs
    lower m l [] le h = tt
    lower m l (x ∷ xs) le h = let at = h.0 in (omega arith, h.1, h.2)

    by : (b : Bool) → Pairs (k + 1) (stripes_from p n (k + 1)) → Pairs k (and_stripe b k (stripes_from p n (k + 1)))
    by true more = let same : number_of_pair (stripe_of k) ≡ k = omega arith in (omega arith, omega arith, subst (λ z. Pairs (z + 1) (stripes_from p n (k + 1))) (sym same) more)
    by false more = lower k (k + 1) (stripes_from p n (k + 1)) (omega arith) more

pub from_has : (p : ℕ → Bool) (many k m : ℕ) → has_stripe (stripes_from p many k) m ≡ true → (p m ≡ true) × (k ≤ m) × (m < k + many)
from_has p zero k m e = cc
from_has p (suc n) k m e = by (p k) refl e (λ q. from_has p n (k + 1) m q)
  where
    by : (b : Bool) → p k ≡ b → has_stripe (and_stripe b k (stripes_from p n (k + 1))) m ≡ true → (has_stripe (stripes_from p n (k + 1)) m ≡ true → (p m ≡ true) × (k + 1 ≤ m) × (m < k + 1 + n)) → (p m ≡ true) × (k ≤ m) × (m < k + suc n)
    by true q r more = ⊎_elim (λ s. (subst (λ z. p z ≡ true) s q, omega arith, omega arith)) (λ ne. let t = more (sym (ap (λ b. b || has_stripe (stripes_from p n (k + 1)) m) (ne_eqb (number_of_pair (stripe_of k)) m (λ u. ne (omega arith)))) ∙ r) in let low = t.1 in let high = t.2 in (t.0, omega arith, omega arith)) (cases_eq k m)
    by false q r more = let t = more r in let low = t.1 in let high = t.2 in (t.0, omega arith, omega arith)

pub has_from : (p : ℕ → Bool) (many k m : ℕ) → p m ≡ true → k ≤ m → m < k + many → has_stripe (stripes_from p many k) m ≡ true
has_from p zero k m e le lt = absurd (omega arith)
has_from p (suc n) k m e le lt = by (p k) refl (λ l r. has_from p n (k + 1) m e l r)
  where
    or_true : (b : Bool) → (b || true) ≡ true
    or_true true = refl
    or_true false = refl

    by : (b : Bool) → p k ≡ b → (k + 1 ≤ m → m < k + 1 + n → has_stripe (stripes_from p n (k + 1)) m ≡ true) → has_stripe (and_stripe b k (stripes_from p n (k + 1))) m ≡ true
    by true q more = ⊎_elim (λ s. ap (λ b. b || has_stripe (stripes_from p n (k + 1)) m) (eq-eqb (number_of_pair (stripe_of k)) m (omega arith))) (λ ne. ap (λ b. (number_of_pair (stripe_of k) == m) || b) (more (omega arith) (omega arith)) ∙ or_true (number_of_pair (stripe_of k) == m)) (cases_eq k m)
    by false q more = ⊎_elim (λ s. absurd (true≢false (sym (subst (λ z. p z ≡ true) (sym s) e) ∙ q))) (λ ne. more (omega arith) (omega arith)) (cases_eq k m)

-- the first number that passes
pub none_first : (p : ℕ → Bool) (many k m : ℕ) → first_from p many k ≡ None → k ≤ m → m < k + many → p m ≡ false
none_first p zero k m e le lt = absurd (omega arith)
none_first p (suc n) k m e le lt = by (p k) refl e (λ q l r. none_first p n (k + 1) m q l r)
  where
    by : (b : Bool) → p k ≡ b → (if b then Some k else first_from p n (k + 1)) ≡ None → (first_from p n (k + 1) ≡ None → k + 1 ≤ m → m < k + 1 + n → p m ≡ false) → p m ≡ false
    by true q r more = cc
    by false q r more = ⊎_elim (λ s. subst (λ z. p z ≡ false) s q) (λ ne. more r (omega arith) (omega arith)) (cases_eq k m)

pub record IsFirstFrom (p : ℕ → Bool) (many k n : ℕ) : Type 0 where
  pub passes : p n ≡ true
  pub low : k ≤ n
  pub high : n < k + many
  pub before : (m : ℕ) → k ≤ m → m < n → p m ≡ false

pub some_first : (p : ℕ → Bool) (many k n : ℕ) → first_from p many k ≡ Some n → IsFirstFrom p many k n
some_first p zero k n e = cc
some_first p (suc j) k n e = by (p k) refl e (λ q. some_first p j (k + 1) n q)
  where
    by : (b : Bool) → p k ≡ b → (if b then Some k else first_from p j (k + 1)) ≡ Some n → (first_from p j (k + 1) ≡ Some n → IsFirstFrom p j (k + 1) n) → IsFirstFrom p (suc j) k n
    by true q r more = let s : k ≡ n = cc in record { passes = subst (λ z. p z ≡ true) s q; low = omega arith; high = omega arith; before = λ m le lt. absurd (omega arith) }
    by false q r more =
        let t = more r in
        let low = t.low in
        let high = t.high in
        record { passes = t.passes; low = omega arith; high = omega arith; before = λ m le lt. ⊎_elim (λ s. subst (λ z. p z ≡ false) s q) (λ ne. t.before m (omega arith) lt) (cases_eq k m) }

-- ---- nestings

abbrev counts_in : ℕ → OpenRegion → ℕ
counts_in n r = bit (has_stripe r.stripes n)

pub nesting_cons : (r : OpenRegion) (rs : List OpenRegion) (n : ℕ) → nesting (r ∷ rs) n ≡ bit (has_stripe r.stripes n) + nesting rs n
nesting_cons r rs n = sum_by-cons (counts_in n) r rs

pub nesting_push : (rs : List OpenRegion) (r : OpenRegion) (n : ℕ) → nesting (rs ++ r ∷ []) n ≡ nesting rs n + bit (has_stripe r.stripes n)
nesting_push rs r n = sum_by_push (counts_in n) rs r

-- a region with other stripes
pub record Recounts (rs : List OpenRegion) (n : ℕ) (before after : List (ℕ × ℕ)) (qs : List OpenRegion) : Type 0 where
  pub same : nesting qs n + bit (has_stripe before n) ≡ nesting rs n + bit (has_stripe after n)
  pub within : bit (has_stripe before n) ≤ nesting rs n

pub nesting_set : (rs : List OpenRegion) (i n : ℕ) (r q : OpenRegion) → slice_get rs i ≡ Some r → Recounts rs n r.stripes q.stripes (slice_set rs i q)
nesting_set rs i n r q e =
    let at = get_or_from_slice_get rs i r r e in
    let lt = slice_get_within rs i r e in
    let sums = sum_by-set (counts_in n) rs i q r lt in
    let least = get_or-le-sum_by (counts_in n) rs i r lt in
    let same = ap (counts_in n) at in
    record { same = omega arith; within = omega arith }

pub nesting_open : (rs : List OpenRegion) (n : ℕ) → nesting (open_ones rs) n ≡ nesting rs n
nesting_open [] n = refl
nesting_open (r ∷ rs) n = by (length r.stripes == 0) refl (nesting_open rs n)
  where
    none : (xs : List (ℕ × ℕ)) → (length xs == 0) ≡ true → has_stripe xs n ≡ false
    none [] e = refl
    none (x ∷ xs) e = let z = eqb-true (length (x ∷ xs)) 0 e in absurd (omega arith)

    by : (b : Bool) → (length r.stripes == 0) ≡ b → nesting (open_ones rs) n ≡ nesting rs n → nesting (if not b then r ∷ open_ones rs else open_ones rs) n ≡ nesting (r ∷ rs) n
    by true q e = let c = nesting_cons r rs n in let z = ap bit (none r.stripes q) in omega arith
    by false q e = let c = nesting_cons r rs n in let d = nesting_cons r (open_ones rs) n in omega arith

-- each region with those of its stripes that pass
abbrev pub filtered : (ℕ → Bool) → List OpenRegion → List OpenRegion
filtered p rs = map (λ r. with_pairs r (filter (λ x. p (number_of_pair x)) r.stripes)) rs

pub nesting_filter : (p : ℕ → Bool) (rs : List OpenRegion) (n : ℕ) → nesting (filtered p rs) n ≡ (if p n then nesting rs n else 0)
nesting_filter p [] n = by (p n)
  where
    by : (b : Bool) → nesting [] n ≡ (if b then nesting [] n else 0)
    by true = refl
    by false = refl
nesting_filter p (r ∷ rs) n =
    let c = nesting_cons (with_pairs r (filter (λ x. p (number_of_pair x)) r.stripes)) (filtered p rs) n in
    let d = nesting_cons r rs n in
    let f = ap bit (has_filter p r.stripes n) in
    c ∙ by (p n) (has_stripe r.stripes n) f (nesting_filter p rs n) d
  where
    by : (b h : Bool) → bit (has_stripe (filter (λ x. p (number_of_pair x)) r.stripes) n) ≡ bit (h && b) → nesting (filtered p rs) n ≡ (if b then nesting rs n else 0) → nesting (r ∷ rs) n ≡ bit h + nesting rs n → bit (has_stripe (filter (λ x. p (number_of_pair x)) r.stripes) n) + nesting (filtered p rs) n ≡ (if b then nesting (r ∷ rs) n else 0)
    by true true f e d = omega arith
    by true false f e d = omega arith
    by false true f e d = omega arith
    by false false f e d = omega arith
