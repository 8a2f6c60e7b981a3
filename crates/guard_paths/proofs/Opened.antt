-- Lists of open regions and of their stripes.
use Rattle.std.proofs.Common.{◌≡◌, ℕ, zero, suc, ◌+◌, ◌-◌, ◌<◌, ◌≤◌, ◌||◌, Bool, true, false, not, List, [], ◌∷◌, ◌++◌, length, map, take, drop, insert, filter, fold, refl, sym, ap, ◌∙◌, subst, arith, Some, None, ◌⊎◌, inl, inr, ⊎_elim}
use Rattle.std.specs.Prelude.{slice_get, slice_set, if◌then◌else◌, nat_le, nat_lt, ◌==◌}
use Rattle.std.proofs.lemmas.Bool.{cases_lt}
use Rattle.std.proofs.lemmas.Bool.Decides.{nat_tests}
use Rattle.std.proofs.lemmas.Option.{same_Some}
use Rattle.flow_code.specs.Holding.{number_of_pair, has_stripe, has_stripes, nesting, first_alone, pairs_after, after_pair, after_pairs}
use Rattle.flow_code.specs.Stripes.{stripe_of, first_from, and_stripe, stripes_from}
use Rattle.flow_code.specs.Threads.{OpenRegion}
use Rattle.guard_paths.proofs.Guarded.{In}
use Rattle.weak_valid.proofs.Accesses.{Each, each_append}

-- ---- how many items pass

abbrev pub many : {X : Type 0} → (X → Bool) → List X → ℕ
many p [] = 0
many p (x ∷ xs) = if p x then suc (many p xs) else many p xs

pub many_append : {X : Type 0} (p : X → Bool) (xs ys : List X) → many p (xs ++ ys) ≡ many p xs + many p ys
many_append p [] ys = omega arith
many_append p (x ∷ xs) ys = go (p x) (many_append p xs ys)
  where
    go : (b : Bool) → many p (xs ++ ys) ≡ many p xs + many p ys → (if b then suc (many p (xs ++ ys)) else many p (xs ++ ys)) ≡ (if b then suc (many p xs) else many p xs) + many p ys
    go true h = omega arith
    go false h = h

pub many_filter : {X : Type 0} (p test : X → Bool) (xs : List X) → many p (filter test xs) ≤ many p xs
many_filter p test [] = omega arith
many_filter p test (x ∷ xs) = go (test x) (p x) refl (many_filter p test xs)
  where
    go : (b c : Bool) → p x ≡ c → many p (filter test xs) ≤ many p xs → many p (if b then x ∷ filter test xs else filter test xs) ≤ (if c then suc (many p xs) else many p xs)
    go true true e h = omega (arith, h, ap (λ d. if d then suc (many p (filter test xs)) else many p (filter test xs)) e)
    go true false e h = omega (arith, h, ap (λ d. if d then suc (many p (filter test xs)) else many p (filter test xs)) e)
    go false true e h = omega (arith, h)
    go false false e h = h

-- the item at a place is filtered out
pub many_without : {X : Type 0} (p test : X → Bool) (xs : List X) (i : ℕ) (x : X) → slice_get xs i ≡ Some x → test x ≡ false → p x ≡ true → many p (filter test xs) + 1 ≤ many p xs
many_without p test [] i x h t q = cc
many_without p test (y ∷ xs) zero x h t q =
    let e : test y ≡ false = ap test (same_Some y x h) ∙ t in
    let f : p y ≡ true = ap p (same_Some y x h) ∙ q in
    omega (arith, ap (λ b. many p (if b then y ∷ filter test xs else filter test xs)) e, ap (λ b. if b then suc (many p xs) else many p xs) f, many_filter p test xs)
many_without p test (y ∷ xs) (suc i) x h t q = go (test y) (p y) refl (many_without p test xs i x h t q)
  where
    go : (b c : Bool) → p y ≡ c → many p (filter test xs) + 1 ≤ many p xs → many p (if b then y ∷ filter test xs else filter test xs) + 1 ≤ (if c then suc (many p xs) else many p xs)
    go true true e h = omega (arith, h, ap (λ d. if d then suc (many p (filter test xs)) else many p (filter test xs)) e)
    go true false e h = omega (arith, h, ap (λ d. if d then suc (many p (filter test xs)) else many p (filter test xs)) e)
    go false true e h = omega (arith, h)
    go false false e h = h

-- an item is exchanged for one that is as much to the test
pub many_set : {X : Type 0} (p : X → Bool) (xs : List X) (i : ℕ) (x y : X) → slice_get xs i ≡ Some x → p y ≡ p x → many p (slice_set xs i y) ≡ many p xs
many_set p [] i x y h e = cc
many_set p (z ∷ xs) zero x y h e = ap (λ b. if b then suc (many p xs) else many p xs) (e ∙ ap p (sym (same_Some z x h)))
many_set p (z ∷ xs) (suc i) x y h e = ap (λ n. if p z then suc n else n) (many_set p xs i x y h e)

pub many_map : {X : Type 0} (p : X → Bool) (f : X → X) (xs : List X) → ((x : X) → p (f x) ≡ p x) → many p (map f xs) ≡ many p xs
many_map p f [] e = refl
many_map p f (x ∷ xs) e = ap (λ b. if b then suc (many p (map f xs)) else many p (map f xs)) (e x) ∙ ap (λ n. if p x then suc n else n) (many_map p f xs e)

-- one of two or more is elsewhere
pub some_one : {X : Type 0} (p : X → Bool) (xs : List X) → 1 ≤ many p xs → (j : ℕ) × (x : X) × (slice_get xs j ≡ Some x) × (p x ≡ true)
some_one p [] le = absurd (omega (arith, le))
some_one {X} p (y ∷ xs) le = go (p y) refl le (λ l. some_one p xs l)
  where
    go : (b : Bool) → p y ≡ b → 1 ≤ (if b then suc (many p xs) else many p xs) → (1 ≤ many p xs → (j : ℕ) × (x : X) × (slice_get xs j ≡ Some x) × (p x ≡ true)) → (j : ℕ) × (x : X) × (slice_get (y ∷ xs) j ≡ Some x) × (p x ≡ true)
    go true e l rec = (0, y, refl, e)
    go false e l rec = let r = rec l in (suc r.0, r.1, r.2, r.3)

pub some_other : {X : Type 0} (p : X → Bool) (xs : List X) (i : ℕ) → 2 ≤ many p xs → (j : ℕ) × (x : X) × (slice_get xs j ≡ Some x) × (p x ≡ true) × (j ≡ i → ⊥)
some_other p [] i le = absurd (omega (arith, le))
some_other {X} p (y ∷ xs) zero le = let r = some_one p xs (less (p y) le) in (suc r.0, r.1, r.2, r.3, (λ e. omega (arith, e)))
  where
    less : (b : Bool) → 2 ≤ (if b then suc (many p xs) else many p xs) → 1 ≤ many p xs
    less true l = omega (arith, l)
    less false l = omega (arith, l)
some_other {X} p (y ∷ xs) (suc i) le = go (p y) refl le (λ l. some_other p xs i l)
  where
    go : (b : Bool) → p y ≡ b → 2 ≤ (if b then suc (many p xs) else many p xs) → (2 ≤ many p xs → (j : ℕ) × (x : X) × (slice_get xs j ≡ Some x) × (p x ≡ true) × (j ≡ i → ⊥)) → (j : ℕ) × (x : X) × (slice_get (y ∷ xs) j ≡ Some x) × (p x ≡ true) × (j ≡ suc i → ⊥)
    go true e l rec = (0, y, refl, e, (λ e. omega (arith, e)))
    go false e l rec = let r = rec l in (suc r.0, r.1, r.2, r.3, (λ e. r.4 (omega (arith, e))))

fold_many : (p : OpenRegion → Bool) (n : ℕ) (xs : List OpenRegion) → fold (λ a x. a + (if p x then 1 else 0)) n xs ≡ n + many p xs
fold_many p n [] = omega arith
fold_many p n (x ∷ xs) = fold_many p (n + (if p x then 1 else 0)) xs ∙ go (p x)
  where
    go : (b : Bool) → n + (if b then 1 else 0) + many p xs ≡ n + (if b then suc (many p xs) else many p xs)
    go true = omega arith
    go false = omega arith

pub nesting_many : (rs : List OpenRegion) (n : ℕ) → nesting rs n ≡ many (λ r. has_stripe r.stripes n) rs
nesting_many rs n = let e : 0 + many (λ (r : OpenRegion). has_stripe r.stripes n) rs ≡ many (λ (r : OpenRegion). has_stripe r.stripes n) rs = omega arith in fold_many (λ r. has_stripe r.stripes n) 0 rs ∙ e

-- ---- items in lists

pub in_filtered : {X : Type 0} (test : X → Bool) (x : X) (xs : List X) → In x xs → test x ≡ true → In x (filter test xs)
in_filtered test x [] (k, h) t = cc
in_filtered {X} test x (y ∷ xs) (zero, h) t = go (test y) (ap test (same_Some y x h) ∙ t)
  where
    go : (b : Bool) → b ≡ true → In x (if b then y ∷ filter test xs else filter test xs)
    go true e = (0, h)
    go false e = cc
in_filtered {X} test x (y ∷ xs) (suc k, h) t = go (test y) (in_filtered test x xs (k, h) t)
  where
    go : (b : Bool) → In x (filter test xs) → In x (if b then y ∷ filter test xs else filter test xs)
    go true r = (suc r.0, r.1)
    go false r = r

pub of_filtered : {X : Type 0} (test : X → Bool) (x : X) (xs : List X) → In x (filter test xs) → In x xs × (test x ≡ true)
of_filtered test x [] (k, h) = cc
of_filtered {X} test x (y ∷ xs) h = go (test y) refl h (λ k. of_filtered test x xs k)
  where
    go : (b : Bool) → test y ≡ b → In x (if b then y ∷ filter test xs else filter test xs) → (In x (filter test xs) → In x xs × (test x ≡ true)) → In x (y ∷ xs) × (test x ≡ true)
    go true e (zero, h) rec = ((0, h), subst (λ z. test z ≡ true) (same_Some y x h) e)
    go true e (suc k, h) rec = let r = rec (k, h) in ((suc r.0.0, r.0.1), r.1)
    go false e h rec = let r = rec h in ((suc r.0.0, r.0.1), r.1)

pub set_other : {X : Type 0} (xs : List X) (i j : ℕ) (x y : X) → slice_get xs j ≡ Some x → (j ≡ i → ⊥) → slice_get (slice_set xs i y) j ≡ Some x
set_other [] i j x y h n = cc
set_other (z ∷ xs) zero zero x y h n = absurd (n refl)
set_other (z ∷ xs) zero (suc j) x y h n = h
set_other (z ∷ xs) (suc i) zero x y h n = h
set_other (z ∷ xs) (suc i) (suc j) x y h n = set_other xs i j x y h (λ e. n (ap suc e))

pub set_here : {X : Type 0} (xs : List X) (i : ℕ) (x y : X) → slice_get xs i ≡ Some x → slice_get (slice_set xs i y) i ≡ Some y
set_here [] i x y h = cc
set_here (z ∷ xs) zero x y h = refl
set_here (z ∷ xs) (suc i) x y h = set_here xs i x y h

pub of_set : {X : Type 0} (xs : List X) (i : ℕ) (x y : X) → In x (slice_set xs i y) → (x ≡ y) ⊎ In x xs
of_set [] i x y (k, h) = cc
of_set (z ∷ xs) zero x y (zero, h) = inl (sym (same_Some y x h))
of_set (z ∷ xs) zero x y (suc k, h) = inr (suc k, h)
of_set (z ∷ xs) (suc i) x y (zero, h) = inr (0, h)
of_set (z ∷ xs) (suc i) x y (suc k, h) = ⊎_elim inl (λ r. inr (suc r.0, r.1)) (of_set xs i x y (k, h))

pub length_set : {X : Type 0} (xs : List X) (i : ℕ) (y : X) → length (slice_set xs i y) ≡ length xs
length_set [] i y = refl
length_set (x ∷ xs) zero y = refl
length_set (x ∷ xs) (suc i) y = ap suc (length_set xs i y)

pub of_append : {X : Type 0} (xs ys : List X) (x : X) → In x (xs ++ ys) → In x xs ⊎ In x ys
of_append [] ys x h = inr h
of_append (z ∷ xs) ys x (zero, h) = inl (0, h)
of_append (z ∷ xs) ys x (suc k, h) = ⊎_elim (λ r. inl (suc r.0, r.1)) inr (of_append xs ys x (k, h))

pub in_first : {X : Type 0} (xs ys : List X) (x : X) → In x xs → In x (xs ++ ys)
in_first [] ys x (k, h) = cc
in_first (z ∷ xs) ys x (zero, h) = (0, h)
in_first (z ∷ xs) ys x (suc k, h) = let r = in_first xs ys x (k, h) in (suc r.0, r.1)

pub in_second : {X : Type 0} (xs ys : List X) (x : X) → In x ys → In x (xs ++ ys)
in_second [] ys x h = h
in_second (z ∷ xs) ys x h = let r = in_second xs ys x h in (suc r.0, r.1)

of_take : {X : Type 0} (n : ℕ) (xs : List X) (x : X) → In x (take n xs) → In x xs
of_take zero xs x (k, h) = cc
of_take (suc n) [] x (k, h) = cc
of_take (suc n) (y ∷ xs) x (zero, h) = (0, h)
of_take (suc n) (y ∷ xs) x (suc k, h) = let r = of_take n xs x (k, h) in (suc r.0, r.1)

of_drop : {X : Type 0} (n : ℕ) (xs : List X) (x : X) → In x (drop n xs) → In x xs
of_drop zero xs x h = h
of_drop (suc n) [] x (k, h) = cc
of_drop (suc n) (y ∷ xs) x h = let r = of_drop n xs x h in (suc r.0, r.1)

pub of_insert : {X : Type 0} (xs : List X) (i : ℕ) (x y : X) → In x (insert xs i y) → (x ≡ y) ⊎ In x xs
of_insert xs i x y h = ⊎_elim (λ a. inr (of_take i xs x a)) second (of_append (take i xs) (y ∷ drop i xs) x h)
  where
    second : In x (y ∷ drop i xs) → (x ≡ y) ⊎ In x xs
    second (zero, h) = inl (sym (same_Some y x h))
    second (suc k, h) = inr (of_drop i xs x (k, h))

-- ---- stripes of a region

pub has_append : (xs ys : List (ℕ × ℕ)) (n : ℕ) → has_stripe (xs ++ ys) n ≡ has_stripe xs n || has_stripe ys n
has_append [] ys n = refl
has_append (x ∷ xs) ys n = go (number_of_pair x == n) (has_append xs ys n)
  where
    go : (b : Bool) → has_stripe (xs ++ ys) n ≡ has_stripe xs n || has_stripe ys n → (b || has_stripe (xs ++ ys) n) ≡ ((b || has_stripe xs n) || has_stripe ys n)
    go true h = refl
    go false h = h

-- one that has a stripe is open
pub has_some : (r : OpenRegion) (n : ℕ) → has_stripe r.stripes n ≡ true → has_stripes r ≡ true
has_some r n h = go r.stripes h
  where
    go : (xs : List (ℕ × ℕ)) → has_stripe xs n ≡ true → not (length xs == 0) ≡ true
    go [] h = cc
    go (x ∷ xs) h = let e : (suc (length xs) == 0) ≡ false = grind (arith, nat_tests) in ap not e

pub has_pair : (xs : List (ℕ × ℕ)) (n : ℕ) → has_stripe xs n ≡ true → (x : ℕ × ℕ) × In x xs × (number_of_pair x ≡ n)
has_pair [] n h = cc
has_pair (x ∷ xs) n h = go (number_of_pair x == n) refl h (λ k. has_pair xs n k)
  where
    go : (b : Bool) → (number_of_pair x == n) ≡ b → (b || has_stripe xs n) ≡ true → (has_stripe xs n ≡ true → (y : ℕ × ℕ) × In y xs × (number_of_pair y ≡ n)) → (y : ℕ × ℕ) × In y (x ∷ xs) × (number_of_pair y ≡ n)
    go true e h rec = (x, (0, refl), grind (arith, nat_tests, e))
    go false e h rec = let r = rec h in (r.0, (suc r.1.0, r.1.1), r.2)

pub pair_has : (xs : List (ℕ × ℕ)) (x : ℕ × ℕ) (n : ℕ) → In x xs → number_of_pair x ≡ n → has_stripe xs n ≡ true
pair_has [] x n (k, h) e = cc
pair_has (y ∷ xs) x n (zero, h) e = let t : (number_of_pair y == n) ≡ true = (let q : number_of_pair y ≡ n = ap number_of_pair (same_Some y x h) ∙ e in grind (arith, nat_tests, q)) in ap (λ b. b || has_stripe xs n) t
pair_has (y ∷ xs) x n (suc k, h) e = ap (λ b. (number_of_pair y == n) || b) (pair_has xs x n (k, h) e) ∙ any (number_of_pair y == n)
  where
    any : (b : Bool) → (b || true) ≡ true
    any true = refl
    any false = refl

-- their numbers ascend
abbrev pub Ascends : List (ℕ × ℕ) → Type 0
Ascends [] = Unit {0}
Ascends (x ∷ xs) = Each (λ y. number_of_pair x < number_of_pair y) xs × Ascends xs

each_in : {X : Type 0} (P : X → Type 0) (xs : List X) (x : X) → Each P xs → In x xs → P x
each_in P [] x h (k, g) = cc
each_in P (y ∷ xs) x h (zero, g) = subst P (same_Some y x g) h.0
each_in P (y ∷ xs) x h (suc k, g) = each_in P xs x h.1 (k, g)

each_kept : {X : Type 0} (P : X → Type 0) (test : X → Bool) (xs : List X) → Each P xs → Each P (filter test xs)
each_kept P test [] h = tt
each_kept P test (x ∷ xs) h = go (test x) (each_kept P test xs h.1)
  where
    go : (b : Bool) → Each P (filter test xs) → Each P (if b then x ∷ filter test xs else filter test xs)
    go true r = (h.0, r)
    go false r = r

pub ascends_filter : (test : ℕ × ℕ → Bool) (xs : List (ℕ × ℕ)) → Ascends xs → Ascends (filter test xs)
ascends_filter test [] h = tt
ascends_filter test (x ∷ xs) h = go (test x) (each_kept (λ y. number_of_pair x < number_of_pair y) test xs h.0) (ascends_filter test xs h.1)
  where
    go : (b : Bool) → Each (λ y. number_of_pair x < number_of_pair y) (filter test xs) → Ascends (filter test xs) → Ascends (if b then x ∷ filter test xs else filter test xs)
    go true e r = (e, r)
    go false e r = r

pub below_end : (xs : List (ℕ × ℕ)) → Ascends xs → Each (λ x. number_of_pair x < after_pairs xs) xs
below_end [] h = tt
below_end (x ∷ []) h = (omega arith, tt)
below_end (x ∷ y ∷ ys) h =
    let e : length (x ∷ y ∷ ys) - 1 ≡ suc (length (y ∷ ys) - 1) = omega arith in
    let s : after_pairs (y ∷ ys) ≡ after_pairs (x ∷ y ∷ ys) = ap (λ n. after_pair (slice_get (x ∷ y ∷ ys) n)) (sym e) in
    let r = below_end (y ∷ ys) h.1 in
    (omega (arith, h.0.0, r.0, s), subst (λ n. Each (λ z. number_of_pair z < n) (y ∷ ys)) s r)

pub ascends_append : (m : ℕ) (xs ys : List (ℕ × ℕ)) → Ascends xs → Ascends ys → Each (λ x. number_of_pair x < m) xs → Each (λ y. m ≤ number_of_pair y) ys → Ascends (xs ++ ys)
ascends_append m [] ys h k a b = k
ascends_append m (x ∷ xs) ys h k a b = (each_append (λ y. number_of_pair x < number_of_pair y) xs ys h.0 (above ys b), ascends_append m xs ys h.1 k a.1 b)
  where
    above : (zs : List (ℕ × ℕ)) → Each (λ y. m ≤ number_of_pair y) zs → Each (λ y. number_of_pair x < number_of_pair y) zs
    above [] e = tt
    above (z ∷ zs) e = (omega (arith, a.0, e.0), above zs e.1)

pub number_back : (n : ℕ) → number_of_pair (stripe_of n) ≡ n
number_back n = grind arith

pub from_above : (p : ℕ → Bool) (m k : ℕ) → Each (λ y. k ≤ number_of_pair y) (stripes_from p m k)
from_above p zero k = tt
from_above p (suc m) k = go (p k) (weaker (stripes_from p m (k + 1)) (from_above p m (k + 1)))
  where
    weaker : (zs : List (ℕ × ℕ)) → Each (λ y. k + 1 ≤ number_of_pair y) zs → Each (λ y. k ≤ number_of_pair y) zs
    weaker [] e = tt
    weaker (z ∷ zs) e = (omega (arith, e.0), weaker zs e.1)

    go : (b : Bool) → Each (λ y. k ≤ number_of_pair y) (stripes_from p m (k + 1)) → Each (λ y. k ≤ number_of_pair y) (and_stripe b k (stripes_from p m (k + 1)))
    go true e = (omega (arith, number_back k), e)
    go false e = e

pub from_ascends : (p : ℕ → Bool) (m k : ℕ) → Ascends (stripes_from p m k)
from_ascends p zero k = tt
from_ascends p (suc m) k = go (p k) (stricter (stripes_from p m (k + 1)) (from_above p m (k + 1))) (from_ascends p m (k + 1))
  where
    stricter : (zs : List (ℕ × ℕ)) → Each (λ y. k + 1 ≤ number_of_pair y) zs → Each (λ y. number_of_pair (stripe_of k) < number_of_pair y) zs
    stricter [] e = tt
    stricter (z ∷ zs) e = (omega (arith, e.0, number_back k), stricter zs e.1)

    go : (b : Bool) → Each (λ y. number_of_pair (stripe_of k) < number_of_pair y) (stripes_from p m (k + 1)) → Ascends (stripes_from p m (k + 1)) → Ascends (and_stripe b k (stripes_from p m (k + 1)))
    go true e r = (e, r)
    go false e r = r

-- a number that passes is among those up to it
pub from_has : (p : ℕ → Bool) (m k n : ℕ) → k ≤ n → n < k + m → p n ≡ true → has_stripe (stripes_from p m k) n ≡ true
from_has p zero k n le lt t = absurd (omega (arith, le, lt))
from_has p (suc m) k n le lt t = ⊎_elim (λ (e : k < n). later (p k) (from_has p m (k + 1) n (omega (arith, e)) (omega (arith, lt)) t)) (λ ge. here (omega (arith, ge, le))) (cases_lt k n)
  where
    later : (b : Bool) → has_stripe (stripes_from p m (k + 1)) n ≡ true → has_stripe (and_stripe b k (stripes_from p m (k + 1))) n ≡ true
    later true h = ap (λ b. (number_of_pair (stripe_of k) == n) || b) h ∙ any (number_of_pair (stripe_of k) == n)
      where
        any : (b : Bool) → (b || true) ≡ true
        any true = refl
        any false = refl
    later false h = h

    here : k ≡ n → has_stripe (and_stripe (p k) k (stripes_from p m (k + 1))) n ≡ true
    here e =
        let q : p k ≡ true = ap p e ∙ t in
        let z : (number_of_pair (stripe_of k) == n) ≡ true = (let y : number_of_pair (stripe_of k) ≡ n = number_back k ∙ e in grind (arith, nat_tests, y)) in
        ap (λ b. has_stripe (and_stripe b k (stripes_from p m (k + 1))) n) q ∙ ap (λ b. b || has_stripe (stripes_from p m (k + 1)) n) z

pub first_found : (p : ℕ → Bool) (m k n : ℕ) → first_from p m k ≡ Some n → (p n ≡ true) × (k ≤ n) × (n < k + m)
first_found p zero k n h = cc
first_found p (suc m) k n h = go (p k) refl h (λ e. first_found p m (k + 1) n e)
  where
    go : (b : Bool) → p k ≡ b → (if b then Some k else first_from p m (k + 1)) ≡ Some n → (first_from p m (k + 1) ≡ Some n → (p n ≡ true) × (k + 1 ≤ n) × (n < k + 1 + m)) → (p n ≡ true) × (k ≤ n) × (n < k + suc m)
    go true e h rec = let q : k ≡ n = same_Some k n h in (ap p (sym q) ∙ e, omega (arith, q), omega (arith, q))
    go false e h rec = let r = rec h in (r.0, omega (arith, r.1), omega (arith, r.2))

-- ---- the first stripe that no other region has

not_alone : (rs : List OpenRegion) (n : ℕ) → nat_le (nesting rs n) 1 ≡ false → 2 ≤ many (λ r. has_stripe r.stripes n) rs
not_alone rs n h = let l : 1 < nesting rs n = above (nesting rs n) h in omega (arith, l, nesting_many rs n)
  where
    above : (m : ℕ) → nat_le m 1 ≡ false → 1 < m
    above m h = grind (arith, nat_tests, h)

-- if there is none, another region has each
pub none_alone : (rs : List OpenRegion) (xs : List (ℕ × ℕ)) (y : ℕ × ℕ) → first_alone rs xs ≡ None → In y xs → 2 ≤ many (λ r. has_stripe r.stripes (number_of_pair y)) rs
none_alone rs [] y h (k, g) = cc
none_alone rs (x ∷ xs) y h i = go (nat_le (nesting rs (number_of_pair x)) 1) refl h i (λ e k. none_alone rs xs y e k)
  where
    go : (b : Bool) → nat_le (nesting rs (number_of_pair x)) 1 ≡ b → (if b then Some x else first_alone rs xs) ≡ None → In y (x ∷ xs) → (first_alone rs xs ≡ None → In y xs → 2 ≤ many (λ r. has_stripe r.stripes (number_of_pair y)) rs) → 2 ≤ many (λ r. has_stripe r.stripes (number_of_pair y)) rs
    go true e h i rec = cc
    go false e h (zero, g) rec = subst (λ z. 2 ≤ many (λ (r : OpenRegion). has_stripe r.stripes (number_of_pair z)) rs) (same_Some x y g) (not_alone rs (number_of_pair x) e)
    go false e h (suc k, g) rec = rec h (k, g)

-- if there is one, another region has each before it
pub before_alone : (rs : List OpenRegion) (xs : List (ℕ × ℕ)) (x y : ℕ × ℕ) → Ascends xs → first_alone rs xs ≡ Some x → In y xs → number_of_pair y < number_of_pair x → 2 ≤ many (λ r. has_stripe r.stripes (number_of_pair y)) rs
before_alone rs [] x y a h (k, g) lt = cc
before_alone rs (z ∷ xs) x y a h i lt = go (nat_le (nesting rs (number_of_pair z)) 1) refl h i (λ e k. before_alone rs xs x y a.1 e k lt)
  where
    go : (b : Bool) → nat_le (nesting rs (number_of_pair z)) 1 ≡ b → (if b then Some z else first_alone rs xs) ≡ Some x → In y (z ∷ xs) → (first_alone rs xs ≡ Some x → In y xs → 2 ≤ many (λ r. has_stripe r.stripes (number_of_pair y)) rs) → 2 ≤ many (λ r. has_stripe r.stripes (number_of_pair y)) rs
    go true e h (zero, g) rec = absurd (omega (arith, lt, ap number_of_pair (same_Some z x h), ap number_of_pair (same_Some z y g)))
    go true e h (suc k, g) rec = absurd (omega (arith, lt, ap number_of_pair (same_Some z x h), each_in (λ w. number_of_pair z < number_of_pair w) xs y a.0 (k, g)))
    go false e h (zero, g) rec = subst (λ w. 2 ≤ many (λ (r : OpenRegion). has_stripe r.stripes (number_of_pair w)) rs) (same_Some z y g) (not_alone rs (number_of_pair z) e)
    go false e h (suc k, g) rec = rec h (k, g)

pub after_has : (n : ℕ) (xs : List (ℕ × ℕ)) (y : ℕ × ℕ) → In y xs → n < number_of_pair y → In y (pairs_after n xs)
after_has n xs y i lt = in_filtered (λ x. nat_lt n (number_of_pair x)) y xs i (grind (arith, nat_tests, lt))
