-- What a Give does to the stripes and open regions of its thread, and what pthread_exit does.
use Rattle.std.proofs.Common.{◌≡◌, ◌≢◌, ℕ, ◌+◌, ◌<◌, ◌≤◌, ◌==◌, ◌&&◌, ◌||◌, nat_lt, nat_le, ⊎_elim, Bool, true, false, if◌then◌else◌, List, [], ◌∷◌, Option, Some, None, refl, sym, ap, subst, ◌∙◌, arith, eq-eqb, ne_eqb, eqb-true}
use Rattle.std.specs.Prelude.{slice_get, slice_set}
use Rattle.std.proofs.lemmas.Bool.{cases_eq, cases_Bool, true≢false, leb-true, leb-false, ltb-true, ltb-false}
use Rattle.flow_code.specs.declared.thread.Stripe.{Stripe}
use Rattle.flow_code.specs.Holding.{number_of_pair, is_listed, without_stripe, has_stripe, nesting, open_ones, with_pairs, pairs_at, first_alone, alone_at, pairs_after, region_with, left_by, released, gives_at, keeping}
use Rattle.flow_code.specs.Threads.{Thread, OpenRegion}
use Rattle.lock_ownership.specs.ThreadStripes.{AreSorted, ArePairsSorted}
use Rattle.lock_ownership.proofs.Ascending.{ascend_filter}
use Rattle.lock_ownership.proofs.Standings.{standing, is_there, listed_is, without_sorted, without_standing}
use Rattle.lock_ownership.proofs.Nestings.{bit, Pairs, has_filter, Recounts, nesting_set, nesting_open, filtered, nesting_filter}
use Rattle.lock_ownership.proofs.Regions.{AreOpen, open_at, have_sorted, sorted_set, sorted_filter, open_those, Agree}

-- ---- the stripe that is given next

-- where none is alone in its region, each is in another one too
alone_none : (rs : List OpenRegion) (xs : List (ℕ × ℕ)) (m : ℕ) → first_alone rs xs ≡ None → has_stripe xs m ≡ true → 2 ≤ nesting rs m
alone_none rs [] m e h = cc
alone_none rs (x ∷ xs) m e h = by (nat_le (nesting rs (number_of_pair x)) 1) refl (number_of_pair x == m) refl e h (λ q k. alone_none rs xs m q k)
  where
    by : (b : Bool) → nat_le (nesting rs (number_of_pair x)) 1 ≡ b → (c : Bool) → (number_of_pair x == m) ≡ c → (if b then Some x else first_alone rs xs) ≡ None → (c || has_stripe xs m) ≡ true → (first_alone rs xs ≡ None → has_stripe xs m ≡ true → 2 ≤ nesting rs m) → 2 ≤ nesting rs m
    by true p c q r k more = cc
    by false p true q r k more = let over = leb-false (nesting rs (number_of_pair x)) 1 p in let same = ap (nesting rs) (eqb-true (number_of_pair x) m q) in omega arith
    by false p false q r k more = more r k

pub record IsAlone (rs : List OpenRegion) (xs : List (ℕ × ℕ)) (n : ℕ) (x : ℕ × ℕ) : Type 0 where
  pub has : has_stripe xs (number_of_pair x) ≡ true
  pub low : n ≤ number_of_pair x
  pub small : x.1 < 8
  pub alone : nesting rs (number_of_pair x) ≤ 1
  pub before : (m : ℕ) → m < number_of_pair x → has_stripe xs m ≡ true → 2 ≤ nesting rs m

alone_some : (rs : List OpenRegion) (n : ℕ) (xs : List (ℕ × ℕ)) (x : ℕ × ℕ) → Pairs n xs → first_alone rs xs ≡ Some x → IsAlone rs xs n x
alone_some rs n [] x h e = cc
alone_some rs n (y ∷ xs) x h e = by (nat_le (nesting rs (number_of_pair y)) 1) refl e (λ q. alone_some rs (number_of_pair y + 1) xs x h.2 q)
  where
    none_below : (k m : ℕ) (zs : List (ℕ × ℕ)) → Pairs k zs → m < k → has_stripe zs m ≡ true → ⊥
    none_below k m [] p lt e = cc
    none_below k m (z ∷ zs) p lt e = let at = p.0 in none_below (number_of_pair z + 1) m zs p.2 (omega arith) (sym (ap (λ b. b || has_stripe zs m) (ne_eqb (number_of_pair z) m (λ s. absurd (omega arith)))) ∙ e)

    or_true : (b : Bool) → (b || true) ≡ true
    or_true true = refl
    or_true false = refl

    by : (b : Bool) → nat_le (nesting rs (number_of_pair y)) 1 ≡ b → (if b then Some y else first_alone rs xs) ≡ Some x → (first_alone rs xs ≡ Some x → IsAlone rs xs (number_of_pair y + 1) x) → IsAlone rs (y ∷ xs) n x
    by true p q more =
        let s : y ≡ x = cc in
        subst (IsAlone rs (y ∷ xs) n) s (record {
          has = ap (λ b. b || has_stripe xs (number_of_pair y)) (eq-eqb (number_of_pair y) (number_of_pair y) refl);
          low = h.0;
          small = h.1;
          alone = leb-true (nesting rs (number_of_pair y)) 1 p;
          before = λ m lt k. absurd (none_below (number_of_pair y + 1) m xs h.2 (omega arith) (sym (ap (λ b. b || has_stripe xs m) (ne_eqb (number_of_pair y) m (λ s2. absurd (omega arith)))) ∙ k));
        })
    by false p q more =
        let a = more q in
        let over = leb-false (nesting rs (number_of_pair y)) 1 p in
        let above = a.low in
        let at = h.0 in
        record {
          has = ap (λ b. (number_of_pair y == number_of_pair x) || b) a.has ∙ or_true (number_of_pair y == number_of_pair x);
          low = omega arith;
          small = a.small;
          alone = a.alone;
          before = λ m lt k. ⊎_elim (λ s. let same = ap (nesting rs) s in omega arith) (λ ne. a.before m lt (sym (ap (λ b. b || has_stripe xs m) (ne_eqb (number_of_pair y) m ne)) ∙ k)) (cases_eq (number_of_pair y) m);
        }

-- ---- a Give's next step

module _ (th : Thread) (i : ℕ) (r : OpenRegion) (at : slice_get th.regions i ≡ Some r) (h : Agree th.stripes th.regions) where
  -- the open regions once this one has these stripes alone
  abbrev left_open : List (ℕ × ℕ) → List OpenRegion
  left_open xs = open_ones (slice_set th.regions i (with_pairs r xs))

  left_counts : (xs : List (ℕ × ℕ)) (n : ℕ) → Recounts th.regions n r.stripes xs (left_open xs)
  left_counts xs n =
      let c = nesting_set th.regions i n r (with_pairs r xs) at in
      let o = nesting_open (slice_set th.regions i (with_pairs r xs)) n in
      let same = c.same in
      let within = c.within in
      record { same = omega arith; within = within }

  left_opened : (xs : List (ℕ × ℕ)) → ArePairsSorted xs → AreOpen (left_open xs)
  left_opened xs s = open_those (slice_set th.regions i (with_pairs r xs)) (sorted_set th.regions i (with_pairs r xs) s (have_sorted th.regions h.opened))

  region_sorted : ArePairsSorted r.stripes
  region_sorted = (open_at th.regions i r h.opened at).sorted

  -- all stripes of the region are in other ones too
  closed_agree : first_alone th.regions r.stripes ≡ None → Agree th.stripes (left_open [])
  closed_agree e = record {
    sorted = h.sorted;
    opened = left_opened [] tt;
    listed = λ n l. by n (has_stripe r.stripes n) refl (h.listed n l);
    only = λ n l. let none = h.only n l in let c = left_counts [] n in let same = c.same in omega arith;
  }
    where
      by : (n : ℕ) (b : Bool) → has_stripe r.stripes n ≡ b → 0 < nesting th.regions n → 0 < nesting (left_open []) n
      by n true q some = let more = alone_none th.regions r.stripes n e q in let c = left_counts [] n in let same = c.same in let one = ap bit q in omega arith
      by n false q some = let c = left_counts [] n in let same = c.same in let one = ap bit q in omega arith

  -- one of them is given, and those before it are in other ones too
  given_agree : (x : ℕ × ℕ) → first_alone th.regions r.stripes ≡ Some x → Agree (without_stripe (number_of_pair x) th.stripes) (left_open (pairs_after (number_of_pair x) r.stripes))
  given_agree x e = record {
    sorted = without_sorted (number_of_pair x) th.stripes h.sorted;
    opened = left_opened (pairs_after (number_of_pair x) r.stripes) (ascend_filter number_of_pair (λ y. y.1) (λ y. nat_lt (number_of_pair x) (number_of_pair y)) 0 r.stripes region_sorted);
    listed = λ n l. some n (number_of_pair x == n) refl (sym (ap is_there (without_standing (number_of_pair x) n th.stripes)) ∙ l);
    only = λ n l. none n (number_of_pair x == n) refl (sym (ap is_there (without_standing (number_of_pair x) n th.stripes)) ∙ l);
  }
    where
      a : IsAlone th.regions r.stripes 0 x
      a = alone_some th.regions 0 r.stripes x region_sorted e

      after_has : (n : ℕ) → has_stripe (pairs_after (number_of_pair x) r.stripes) n ≡ (has_stripe r.stripes n && nat_lt (number_of_pair x) n)
      after_has n = has_filter (nat_lt (number_of_pair x)) r.stripes n

      some_left : (n : ℕ) (b c : Bool) → n ≢ number_of_pair x → has_stripe r.stripes n ≡ b → nat_lt (number_of_pair x) n ≡ c → has_stripe (pairs_after (number_of_pair x) r.stripes) n ≡ (b && c) → 0 < nesting th.regions n → 0 < nesting (left_open (pairs_after (number_of_pair x) r.stripes)) n
      some_left n true true ne q t f some = let c = left_counts (pairs_after (number_of_pair x) r.stripes) n in let same = c.same in let u = ap bit q in let v = ap bit f in omega arith
      some_left n true false ne q t f some =
          let over = ltb-false (number_of_pair x) n t in
          let more = a.before n (omega arith) q in
          let c = left_counts (pairs_after (number_of_pair x) r.stripes) n in
          let same = c.same in
          let u = ap bit q in
          let v = ap bit f in
          omega arith
      some_left n false t2 ne q t f some = let c = left_counts (pairs_after (number_of_pair x) r.stripes) n in let same = c.same in let u = ap bit q in let v = ap bit f in omega arith

      some : (n : ℕ) (b : Bool) → (number_of_pair x == n) ≡ b → is_there (if b then None else standing th.stripes n) ≡ true → 0 < nesting (left_open (pairs_after (number_of_pair x) r.stripes)) n
      some n true q l = absurd (true≢false (sym l))
      some n false q l =
          some_left n (has_stripe r.stripes n) (nat_lt (number_of_pair x) n) (λ s. true≢false (sym (eq-eqb (number_of_pair x) n (sym s)) ∙ q)) refl refl (after_has n) (h.listed n l)

      none_left : (n : ℕ) (b : Bool) → has_stripe r.stripes n ≡ b → has_stripe (pairs_after (number_of_pair x) r.stripes) n ≡ (b && nat_lt (number_of_pair x) n) → nesting th.regions n ≡ 0 → nesting (left_open (pairs_after (number_of_pair x) r.stripes)) n ≡ 0
      none_left n true q f zero_now = let c = left_counts (pairs_after (number_of_pair x) r.stripes) n in let within = c.within in let u = ap bit q in absurd (omega arith)
      none_left n false q f zero_now = let c = left_counts (pairs_after (number_of_pair x) r.stripes) n in let same = c.same in let u = ap bit q in let v = ap bit f in omega arith

      gone : nesting (left_open (pairs_after (number_of_pair x) r.stripes)) (number_of_pair x) ≡ 0
      gone =
          let c = left_counts (pairs_after (number_of_pair x) r.stripes) (number_of_pair x) in
          let same = c.same in
          let u = ap bit a.has in
          let v = ap bit itself in
          let one = a.alone in
          omega arith
        where
          not_below : nat_lt (number_of_pair x) (number_of_pair x) ≡ false
          not_below = ⊎_elim (λ t. let less = ltb-true (number_of_pair x) (number_of_pair x) t in absurd (omega arith)) (λ t. t) (cases_Bool (nat_lt (number_of_pair x) (number_of_pair x)))

          itself : has_stripe (pairs_after (number_of_pair x) r.stripes) (number_of_pair x) ≡ false
          itself = after_has (number_of_pair x) ∙ rw (a.has, not_below) refl

      none : (n : ℕ) (b : Bool) → (number_of_pair x == n) ≡ b → is_there (if b then None else standing th.stripes n) ≡ false → nesting (left_open (pairs_after (number_of_pair x) r.stripes)) n ≡ 0
      none n true q l = let same = ap (nesting (left_open (pairs_after (number_of_pair x) r.stripes))) (eqb-true (number_of_pair x) n q) in omega (arith, gone)
      none n false q l = none_left n (has_stripe r.stripes n) refl (after_has n) (h.only n l)

  -- what is given is held or owed
  pub given_there : (x : ℕ × ℕ) → first_alone th.regions r.stripes ≡ Some x → (is_there (standing th.stripes (number_of_pair x)) ≡ true) × (x.1 < 8)
  given_there x e =
      let a = alone_some th.regions 0 r.stripes x region_sorted e in
      let c = left_counts [] (number_of_pair x) in
      let within = c.within in
      let one = ap bit a.has in
      (⊎_elim (λ t. t) (λ t. let none = h.only (number_of_pair x) t in absurd (omega arith)) (cases_Bool (is_there (standing th.stripes (number_of_pair x)))), a.small)

give_in : (th : Thread) (i : ℕ) (o : Option OpenRegion) (next : Option (ℕ × ℕ)) → slice_get th.regions i ≡ o → first_alone th.regions (pairs_at o) ≡ next → Agree th.stripes th.regions → Agree (released next th.stripes) (open_ones (region_with o (left_by next (pairs_at o)) th.regions i))
give_in th i None None at e h = record {
  sorted = h.sorted;
  opened = open_those th.regions (have_sorted th.regions h.opened);
  listed = λ n l. subst (λ k. 0 < k) (sym (nesting_open th.regions n)) (h.listed n l);
  only = λ n l. nesting_open th.regions n ∙ h.only n l;
}
give_in th i None (Some x) at e h = cc
give_in th i (Some r) None at e h = closed_agree th i r at h e
give_in th i (Some r) (Some x) at e h = given_agree th i r at h x e

pub give_agrees : (th : Thread) (place : Option ℕ) (next : Option (ℕ × ℕ)) → alone_at th.regions place ≡ next → Agree th.stripes th.regions → Agree (gives_at th place next).stripes (gives_at th place next).regions
give_agrees th None next e h = h
give_agrees th (Some i) next e h = give_in th i (slice_get th.regions i) next refl e h

there_in : (th : Thread) (i : ℕ) (o : Option OpenRegion) (x : ℕ × ℕ) → slice_get th.regions i ≡ o → first_alone th.regions (pairs_at o) ≡ Some x → Agree th.stripes th.regions → (is_there (standing th.stripes (number_of_pair x)) ≡ true) × (x.1 < 8)
there_in th i None x at e h = cc
there_in th i (Some r) x at e h = given_there th i r at h x e

-- a stripe that is given is held or owed before
pub give_there : (th : Thread) (place : Option ℕ) (x : ℕ × ℕ) → alone_at th.regions place ≡ Some x → Agree th.stripes th.regions → (is_there (standing th.stripes (number_of_pair x)) ≡ true) × (x.1 < 8)
give_there th None x e h = cc
give_there th (Some i) x e h = there_in th i (slice_get th.regions i) x refl e h

pub give_released : (th : Thread) (place : Option ℕ) (x : ℕ × ℕ) → alone_at th.regions place ≡ Some x → (gives_at th place (Some x)).stripes ≡ without_stripe (number_of_pair x) th.stripes
give_released th None x e = cc
give_released th (Some i) x e = refl

pub give_counted : (th : Thread) (place : Option ℕ) → (gives_at th place None).stripes ≡ th.stripes
give_counted th None = refl
give_counted th (Some i) = refl

-- ---- pthread_exit

-- a thread that keeps some of its stripes alone
pub keeping_agrees : (th : Thread) (xs : List Stripe) → AreSorted xs → ((n : ℕ) → is_there (standing xs n) ≡ true → is_there (standing th.stripes n) ≡ true) → Agree th.stripes th.regions → Agree xs (keeping th xs).regions
keeping_agrees th xs s fewer h = record {
  sorted = s;
  opened = open_those (filtered (is_listed xs) th.regions) (sorted_filter (is_listed xs) th.regions (have_sorted th.regions h.opened));
  listed = λ n l. let c = counts n in let b = ap (λ k. if k then nesting th.regions n else 0) (listed_is xs n ∙ l) in subst (λ k. 0 < k) (sym (c ∙ b)) (h.listed n (fewer n l));
  only = λ n l. counts n ∙ ap (λ k. if k then nesting th.regions n else 0) (listed_is xs n ∙ l);
}
  where
    counts : (n : ℕ) → nesting (keeping th xs).regions n ≡ (if is_listed xs n then nesting th.regions n else 0)
    counts n = nesting_open (filtered (is_listed xs) th.regions) n ∙ nesting_filter (is_listed xs) th.regions n
