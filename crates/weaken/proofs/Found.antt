-- Sets of numbers in ascending order, and where places stand among those that have locks.
use Rattle.std.proofs.Common.{◌≡◌, ℕ, zero, suc, ◌+◌, ◌<◌, ◌≤◌, ◌&&◌, Bool, true, false, List, [], ◌∷◌, length, drop, get_or, refl, sym, ap, ◌∙◌, subst, arith, Option, Some, None, ◌⊎◌, inl, inr}
use Rattle.std.specs.Prelude.{slice_get, if◌then◌else◌, nat_lt, ◌==◌, ◌||◌, cond, not, Result, Ok, Err, OnOk, OnErr}
use Rattle.std.specs.List.{insert, position, position_or_len}
use Rattle.std.specs.List.Sorted.{IsPartitionedBy}
use Rattle.std.proofs.lemmas.Bool.Decides.{nat_tests}
use Rattle.std.proofs.lemmas.Bool.{cases_lt}
use Rattle.std.proofs.lemmas.List.Quantifiers.{position-Some}
use Rattle.std.proofs.lemmas.Option.{same_Some}
use Rattle.rr_base.specs.declared.layout.Place.{Place}
use Rattle.flow_code.specs.Regions.{ascend}
use Rattle.facts.specs.PointsTo.{are_ascending, is_before, place}
use Rattle.facts.specs.Pairs.{place_same}
use Rattle.std.specs.declared.alloc.AllocError.{AllocError}
use Rattle.weak_code.specs.WeakLocks.{with_number, with_some, with_locks, lock_at}
use Rattle.weaken.proofs.Nexts.{dropped}

and_both : (p q : Bool) → p && q ≡ true → (p ≡ true) × (q ≡ true)
and_both true q h = (refl, h)
and_both false q h = cc

both_and : (p q : Bool) → p ≡ true → q ≡ true → p && q ≡ true
both_and true q h k = k
both_and false q h k = cc

-- ---- numbers

-- it is less than the first
abbrev pub Under : ℕ → List ℕ → Type 0
Under n [] = Unit {0}
Under n (x ∷ xs) = n < x

pub ascend_tail : (x : ℕ) (xs : List ℕ) → ascend (x ∷ xs) ≡ true → (Under x xs) × (ascend xs ≡ true)
ascend_tail x [] h = (tt, refl)
ascend_tail x (y ∷ ys) h = let b = and_both (nat_lt x y) (ascend (y ∷ ys)) h in (grind (arith, nat_tests, b.0), b.1)

pub ascend_more : (x : ℕ) (xs : List ℕ) → Under x xs → ascend xs ≡ true → ascend (x ∷ xs) ≡ true
ascend_more x [] u h = refl
ascend_more x (y ∷ ys) u h = both_and (nat_lt x y) (ascend (y ∷ ys)) (grind (arith, nat_tests, u)) h

under_with : (x n : ℕ) (ys : List ℕ) → x < n → Under x ys → Under x (with_number n ys)
under_with x n [] l u = l
under_with x n (y ∷ ys) l u = go (nat_lt y n) (y == n)
  where
    go : (b c : Bool) → Under x (if b then y ∷ with_number n ys else (if c then y ∷ ys else n ∷ y ∷ ys))
    go true c = u
    go false true = u
    go false false = l

pub ascend_with : (n : ℕ) (xs : List ℕ) → ascend xs ≡ true → ascend (with_number n xs) ≡ true
ascend_with n [] h = refl
ascend_with n (x ∷ xs) h = let t = ascend_tail x xs h in go (ascend_with n xs t.1) t.0 (nat_lt x n) refl (x == n) refl
  where
    go : ascend (with_number n xs) ≡ true → Under x xs → (b : Bool) → nat_lt x n ≡ b → (c : Bool) → (x == n) ≡ c → ascend (if b then x ∷ with_number n xs else (if c then x ∷ xs else n ∷ x ∷ xs)) ≡ true
    go r u true e c f = ascend_more x (with_number n xs) (under_with x n xs (grind (arith, nat_tests, e)) u) r
    go r u false e true f = h
    go r u false e false f = ascend_more n (x ∷ xs) (grind (arith, nat_tests, e, f)) h

pub with_at : (n : ℕ) (xs : List ℕ) (i : ℕ) → i ≤ length xs → ((k : ℕ) → k < i → get_or xs k 0 < n) → ((k : ℕ) → i ≤ k → k < length xs → n ≤ get_or xs k 0)
    → (slice_get xs i ≡ Some n → with_number n xs ≡ xs) × ((slice_get xs i ≡ Some n → ⊥) → with_number n xs ≡ insert xs i n)
with_at n [] zero le below above = ((λ h. cc), (λ h. refl))
with_at n [] (suc i) le below above = absurd (omega arith)
with_at n (x ∷ xs) zero le below above = ((λ h. same h), (λ h. other h))
  where
    no_less : n ≤ x
    no_less = above 0 (omega arith) (omega arith)

    same : Some x ≡ Some n → with_number n (x ∷ xs) ≡ x ∷ xs
    same h = let e : x ≡ n = cc in let f : nat_lt x n ≡ false = grind (arith, nat_tests) in let g : (x == n) ≡ true = grind (arith, nat_tests) in ap (λ b. if b then x ∷ with_number n xs else (if x == n then x ∷ xs else n ∷ x ∷ xs)) f ∙ ap (λ b. if b then x ∷ xs else n ∷ x ∷ xs) g

    other : (Some x ≡ Some n → ⊥) → with_number n (x ∷ xs) ≡ n ∷ x ∷ xs
    other h = let d : x ≡ n → ⊥ = λ e. h (ap Some e) in let f : nat_lt x n ≡ false = grind (arith, nat_tests) in let g : (x == n) ≡ false = grind (arith, nat_tests, d) in ap (λ b. if b then x ∷ with_number n xs else (if x == n then x ∷ xs else n ∷ x ∷ xs)) f ∙ ap (λ b. if b then x ∷ xs else n ∷ x ∷ xs) g
with_at n (x ∷ xs) (suc i) le below above =
    let r = with_at n xs i (omega arith) (λ k lt. below (suc k) (omega arith)) (λ k ge lt. above (suc k) (omega arith) (omega arith)) in
    let l : x < n = below 0 (omega arith) in
    let f : nat_lt x n ≡ true = grind (arith, nat_tests) in (
      (λ h. ap (λ b. if b then x ∷ with_number n xs else (if x == n then x ∷ xs else n ∷ x ∷ xs)) f ∙ ap (λ zs. x ∷ zs) (r.0 h)),
      (λ h. ap (λ b. if b then x ∷ with_number n xs else (if x == n then x ∷ xs else n ∷ x ∷ xs)) f ∙ ap (λ zs. x ∷ zs) (r.1 h)),
    )

pub is_less : (m n : ℕ) → nat_lt m n ≡ true → m < n
is_less m n h = grind (arith, nat_tests, h)

pub is_not_less : (m n : ℕ) → nat_lt m n ≡ false → n ≤ m
is_not_less m n h = grind (arith, nat_tests, h)

-- each is less than any later one
abbrev pub All_over : ℕ → List ℕ → Type 0
All_over x ys = (k : ℕ) (d : ℕ) → k < length ys → x < get_or ys k d

over_first : (x : ℕ) (ys : List ℕ) → Under x ys → ascend ys ≡ true → All_over x ys
over_first x [] u h k d lt = absurd (omega arith)
over_first x (y ∷ ys) u h zero d lt = u
over_first x (y ∷ ys) u h (suc k) d lt = let t = ascend_tail y ys h in let r : y < get_or ys k d = over_first y ys t.0 t.1 k d (omega arith) in omega (arith, u, r)

pub numbers_partitioned : (xs : List ℕ) (n : ℕ) → ascend xs ≡ true → IsPartitionedBy (λ v. nat_lt v n) xs
numbers_partitioned [] n up i j d le lt h = absurd (omega arith)
numbers_partitioned (x ∷ xs) n up zero zero d le lt h = h
numbers_partitioned (x ∷ xs) n up zero (suc j) d le lt h = let t = ascend_tail x xs up in let o : x < get_or xs j d = over_first x xs t.0 t.1 j d (omega arith) in let l : get_or xs j d < n = is_less (get_or xs j d) n h in grind (arith, nat_tests, o, l)
numbers_partitioned (x ∷ xs) n up (suc i) zero d le lt h = absurd (omega arith)
numbers_partitioned (x ∷ xs) n up (suc i) (suc j) d le lt h = numbers_partitioned xs n (ascend_tail x xs up).1 i j d (omega arith) (omega arith) h

-- ---- places

or_cases : (p q r : Bool) → p || (q && r) ≡ true → (p ≡ true) ⊎ ((q ≡ true) × (r ≡ true))
or_cases true q r h = inl refl
or_cases false true r h = inr (refl, h)
or_cases false false r h = cc

pub before_trans : (p q r : Place) → is_before p q ≡ true → is_before q r ≡ true → is_before p r ≡ true
before_trans p q r h k = grind (arith, nat_tests, h, k)

pub before_not_same : (p q : Place) → is_before p q ≡ true → place_same q p ≡ false
before_not_same p q h = grind (arith, nat_tests, h)

pub after_not_same : (p q : Place) → is_before p q ≡ true → place_same p q ≡ false
after_not_same p q h = grind (arith, nat_tests, h)

pub same_place : (p q : Place) → place_same p q ≡ true → p ≡ q
same_place p q h = let b = and_both (p.site == q.site) (p.class == q.class) h in let e : p.site ≡ q.site = grind (arith, nat_tests, b.0) in let f : p.class ≡ q.class = grind (arith, nat_tests, b.1) in ap (λ (z : ℕ). place z p.class) e ∙ ap (λ (z : ℕ). place q.site z) f

pub same_self : (p : Place) → place_same p p ≡ true
same_self p = grind (arith, nat_tests)

pub not_before : (p q : Place) → is_before p q ≡ false → place_same p q ≡ false → is_before q p ≡ true
not_before p q h k = grind (arith, nat_tests, h, k)

-- it comes before the first
abbrev pub Ahead : Place → List Place → Type 0
Ahead p [] = Unit {0}
Ahead p (q ∷ qs) = is_before p q ≡ true

pub up_tail : (p : Place) (qs : List Place) → are_ascending (p ∷ qs) ≡ true → Ahead p qs × (are_ascending qs ≡ true)
up_tail p [] h = (tt, refl)
up_tail p (q ∷ qs) h = let b = and_both (is_before p q) (are_ascending (q ∷ qs)) h in (b.0, b.1)

ahead_all : (p : Place) (qs : List Place) → Ahead p qs → are_ascending qs ≡ true → (k : ℕ) (d : Place) → k < length qs → is_before p (get_or qs k d) ≡ true
ahead_all p [] a h k d lt = absurd (omega arith)
ahead_all p (q ∷ qs) a h zero d lt = a
ahead_all p (q ∷ qs) a h (suc k) d lt = let t = up_tail q qs h in before_trans p q (get_or qs k d) a (ahead_all q qs t.0 t.1 k d (omega arith))

pub far : (qs : List Place) (i k : ℕ) (d : Place) → are_ascending qs ≡ true → i < k → k < length qs → is_before (get_or qs i d) (get_or qs k d) ≡ true
far [] i k d up gt lt = absurd (omega arith)
far (q ∷ qs) zero zero d up gt lt = absurd (omega arith)
far (q ∷ qs) zero (suc k) d up gt lt = let t = up_tail q qs up in ahead_all q qs t.0 t.1 k d (omega arith)
far (q ∷ qs) (suc i) zero d up gt lt = absurd (omega arith)
far (q ∷ qs) (suc i) (suc k) d up gt lt = far qs i k d (up_tail q qs up).1 (omega arith) (omega arith)

pub places_partitioned : (ps : List Place) (p : Place) → are_ascending ps ≡ true → IsPartitionedBy (λ v. is_before v p) ps
places_partitioned [] p up i j d le lt h = absurd (omega arith)
places_partitioned (q ∷ qs) p up zero zero d le lt h = h
places_partitioned (q ∷ qs) p up zero (suc j) d le lt h = let t = up_tail q qs up in before_trans q (get_or qs j d) p (ahead_all q qs t.0 t.1 j d (omega arith)) h
places_partitioned (q ∷ qs) p up (suc i) zero d le lt h = absurd (omega arith)
places_partitioned (q ∷ qs) p up (suc i) (suc j) d le lt h = places_partitioned qs p (up_tail q qs up).1 i j d (omega arith) (omega arith) h

-- ---- the lock of a place

len_next : {X : Type 0} (p : X → Bool) (x : X) (xs : List X) → p x ≡ false → position_or_len p (x ∷ xs) ≡ 1 + position_or_len p xs
len_next p x xs h = ap (λ b. cond (not b) (1 + position_or_len p xs) 0) h

-- the first place at which an item passes
pub first_passes : {X : Type 0} (p : X → Bool) (xs : List X) (i : ℕ) (x : X) → slice_get xs i ≡ Some x → p x ≡ true → ((k : ℕ) (d : X) → k < i → p (get_or xs k d) ≡ false) → position_or_len p xs ≡ i
first_passes p [] i x h t f = cc
first_passes p (y ∷ ys) zero x h t f = let e : y ≡ x = same_Some y x h in ap (λ b. cond (not b) (1 + position_or_len p ys) 0) (ap p e ∙ t)
first_passes p (y ∷ ys) (suc i) x h t f = let r = first_passes p ys i x h t (λ k d lt. f (suc k) d (omega arith)) in let s : 1 + i ≡ suc i = omega arith in len_next p y ys (f 0 y (omega arith)) ∙ ap (λ n. 1 + n) r ∙ s

pub none_passes : {X : Type 0} (p : X → Bool) (xs : List X) → ((k : ℕ) (d : X) → k < length xs → p (get_or xs k d) ≡ false) → position_or_len p xs ≡ length xs
none_passes p [] f = refl
none_passes p (y ∷ ys) f = let r = none_passes p ys (λ k d lt. f (suc k) d (omega arith)) in let s : 1 + length ys ≡ suc (length ys) = omega arith in len_next p y ys (f 0 y (omega arith)) ∙ ap (λ n. 1 + n) r ∙ s

pub is_position : {X : Type 0} (p : X → Bool) (xs : List X) (i : ℕ) → position_or_len p xs ≡ i → i < length xs → position p xs ≡ Some i
is_position p xs i e lt = let f : nat_lt (position_or_len p xs) (length xs) ≡ true = grind (arith, nat_tests, e, lt) in ap (λ b. cond b (Some (position_or_len p xs)) None) f ∙ ap Some e

pub no_position : {X : Type 0} (p : X → Bool) (xs : List X) → position_or_len p xs ≡ length xs → position p xs ≡ None
no_position p xs e = let f : nat_lt (position_or_len p xs) (length xs) ≡ false = grind (arith, nat_tests, e) in ap (λ b. cond b (Some (position_or_len p xs)) None) f

inside : {X : Type 0} (xs : List X) (i : ℕ) (x : X) → slice_get xs i ≡ Some x → i < length xs
inside [] i x h = cc
inside (y ∷ ys) zero x h = omega arith
inside (y ∷ ys) (suc i) x h = let r = inside ys i x h in omega arith

gets : {X : Type 0} (xs : List X) (k : ℕ) (d : X) → k < length xs → slice_get xs k ≡ Some (get_or xs k d)
gets [] k d lt = absurd (omega arith)
gets (y ∷ ys) zero d lt = refl
gets (y ∷ ys) (suc k) d lt = gets ys k d (omega arith)

pub lock_found : (qs : List Place) (p : Place) (i : ℕ) → ((k : ℕ) (d : Place) → k < i → is_before (get_or qs k d) p ≡ true) → slice_get qs i ≡ Some p → lock_at qs p ≡ Some i
lock_found qs p i below h = is_position (λ q. place_same p q) qs i (first_passes (λ q. place_same p q) qs i p h (same_self p) (λ k d lt. before_not_same (get_or qs k d) p (below k d lt))) (inside qs i p h)

-- those from i on aren't before p, and the i-th isn't p
pub lock_absent : (qs : List Place) (p : Place) (i : ℕ) → are_ascending qs ≡ true → ((k : ℕ) (d : Place) → k < i → is_before (get_or qs k d) p ≡ true) → ((k : ℕ) (d : Place) → i ≤ k → k < length qs → is_before (get_or qs k d) p ≡ false) → (slice_get qs i ≡ Some p → ⊥) → lock_at qs p ≡ None
lock_absent qs p i up below above absent = no_position (λ q. place_same p q) qs (none_passes (λ q. place_same p q) qs each)
  where
    -- none is p: those before i come before it; if the i-th isn't p it comes after, as those after it do
    same_at : (k : ℕ) (d : Place) → k < length qs → (b : Bool) → place_same p (get_or qs k d) ≡ b → b ≡ true → i < k → ⊥
    same_at k d lt b e t gt =
        let s : p ≡ get_or qs k d = same_place p (get_or qs k d) (e ∙ t) in
        let before : is_before (get_or qs i d) (get_or qs k d) ≡ true = far qs i k d up gt lt in
        let not : is_before (get_or qs i d) p ≡ false = above i d (omega arith) (omega arith) in
        let f : is_before (get_or qs i d) p ≡ true = ap (λ z. is_before (get_or qs i d) z) s ∙ before in
        cc

    each : (k : ℕ) (d : Place) → k < length qs → place_same p (get_or qs k d) ≡ false
    each k d lt = go (cases_lt k i) (place_same p (get_or qs k d)) refl
      where
        go : (k < i) ⊎ (i ≤ k) → (b : Bool) → place_same p (get_or qs k d) ≡ b → b ≡ false
        go (inl l) b e = sym e ∙ before_not_same (get_or qs k d) p (below k d l)
        go (inr g) false e = refl
        go (inr g) true e = absurd (split (cases_lt i k))
          where
            split : (i < k) ⊎ (k ≤ i) → ⊥
            split (inl gt) = same_at k d lt true e refl gt
            split (inr le) = let n : k ≡ i = omega arith in absent (subst (λ j. slice_get qs j ≡ Some p) n (gets qs k d lt ∙ ap Some (sym (same_place p (get_or qs k d) e))))

-- each item of a list that ascends is where its lock says
pub lock_of_item : (qs : List Place) (n : ℕ) (x : Place) → are_ascending qs ≡ true → slice_get qs n ≡ Some x → lock_at qs x ≡ Some n
lock_of_item qs n x up h = lock_found qs x n (λ k d lt. subst (λ z. is_before (get_or qs k d) z ≡ true) (reads qs n x d h) (far qs k n d up lt (inside qs n x h))) h
  where
    reads : (ys : List Place) (m : ℕ) (y e : Place) → slice_get ys m ≡ Some y → get_or ys m e ≡ y
    reads ys m y e g = same_Some (get_or ys m e) y (sym (gets ys m e (inside ys m y g)) ∙ g)

abbrev pub is_number : Option ℕ → ℕ → Bool
is_number None n = false
is_number (Some m) n = m == n

-- an item is the place just where it is the one with the place's lock
pub same_by_lock : (qs : List Place) (p : Place) (o : Option ℕ) (n : ℕ) (x : Place) → are_ascending qs ≡ true → lock_at qs p ≡ o → slice_get qs n ≡ Some x → place_same x p ≡ is_number o n
same_by_lock qs p o n x up e h = go (place_same x p) refl o e
  where
    of_item : lock_at qs x ≡ Some n
    of_item = lock_of_item qs n x up h

    go : (b : Bool) → place_same x p ≡ b → (o : Option ℕ) → lock_at qs p ≡ o → b ≡ is_number o n
    go true s None e = let f : lock_at qs p ≡ Some n = subst (λ z. lock_at qs z ≡ Some n) (same_place x p s) of_item in cc
    go true s (Some m) e = let f : lock_at qs p ≡ Some n = subst (λ z. lock_at qs z ≡ Some n) (same_place x p s) of_item in let g : m ≡ n = same_Some m n (sym e ∙ f) in grind (arith, nat_tests, g)
    go false s None e = refl
    go false s (Some m) e = other (m == n) refl
      where
        other : (b : Bool) → (m == n) ≡ b → false ≡ b
        other false t = refl
        other true t =
            let g : m ≡ n = grind (arith, nat_tests, t) in
            let q = position-Some (λ z. place_same p z) qs m x e in
            let r : place_same p (get_or qs n x) ≡ true = subst (λ k. place_same p (get_or qs k x) ≡ true) g q.1 in
            let i : get_or qs n x ≡ x = same_Some (get_or qs n x) x (sym (gets qs n x (inside qs n x h)) ∙ h) in
            let u : place_same p x ≡ true = subst (λ z. place_same p z ≡ true) i r in
            let v : p ≡ x = same_place p x u in
            let w : place_same x p ≡ true = subst (λ z. place_same x z ≡ true) (sym v) (same_self x) in
            cc

-- ---- numbers put in their places

moved_on : {A B : Type 0} (r : Result A B) (P Q : Type 0) → (P → Q) → OnOk r P → OnOk r Q
moved_on (Ok x) P Q f h = f h
moved_on (Err e) P Q f h = tt

pub put_same : (xs ys zs : List ℕ) (n i : ℕ) → ys ≡ xs → zs ≡ xs → i ≤ length ys → ((k : ℕ) → k < i → get_or ys k 0 < n) → ((k : ℕ) → i ≤ k → k < length ys → n ≤ get_or ys k 0) → slice_get zs i ≡ Some n → xs ≡ with_number n xs
put_same xs ys zs n i e f le below above h = sym (subst (λ w. with_number n w ≡ w) e ((with_at n ys i le below above).0 (ap (λ w. slice_get w i) (e ∙ sym f) ∙ h)))

put_other : (xs ys zs : List ℕ) (n i : ℕ) → ys ≡ xs → zs ≡ xs → i ≤ length ys → ((k : ℕ) → k < i → get_or ys k 0 < n) → ((k : ℕ) → i ≤ k → k < length ys → n ≤ get_or ys k 0) → (slice_get zs i ≡ Some n → ⊥) → with_number n xs ≡ insert xs i n
put_other xs ys zs n i e f le below above h = subst (λ w. with_number n w ≡ insert w i n) e ((with_at n ys i le below above).1 (λ g. h (ap (λ w. slice_get w i) (f ∙ sym e) ∙ g)))

pub put_value : (xs ys zs new : List ℕ) (n i : ℕ) (r : Result (Unit {0}) AllocError) → ys ≡ xs → zs ≡ xs → i ≤ length ys → ((k : ℕ) → k < i → get_or ys k 0 < n) → ((k : ℕ) → i ≤ k → k < length ys → n ≤ get_or ys k 0) → (slice_get zs i ≡ Some n → ⊥) → OnOk r (new ≡ insert xs i n) → OnOk r (new ≡ with_number n xs)
put_value xs ys zs new n i r e f le below above h ok = moved_on r (new ≡ insert xs i n) (new ≡ with_number n xs) (λ g. g ∙ sym (put_other xs ys zs n i e f le below above h)) ok

pub put_ascends : (xs new : List ℕ) (n : ℕ) (r : Result (Unit {0}) AllocError) → ascend xs ≡ true → OnOk r (new ≡ with_number n xs) → OnErr r (new ≡ xs) → ascend new ≡ true
put_ascends xs new n (Ok x) up ok err = subst (λ z. ascend z ≡ true) (sym ok) (ascend_with n xs up)
put_ascends xs new n (Err e) up ok err = subst (λ z. ascend z ≡ true) (sym err) up

pub locks_step : (locked ps : List Place) (i : ℕ) (x : Place) (old new all : List ℕ) → slice_get ps i ≡ Some x → new ≡ with_some (lock_at locked x) old → with_locks locked old (drop i ps) ≡ all → with_locks locked new (drop (i + 1) ps) ≡ all
locks_step locked ps i x old new all h e f = ap (λ z. with_locks locked z (drop (i + 1) ps)) e ∙ ap (with_locks locked old) (sym (dropped ps i x h)) ∙ f
