-- A Give keeps what a thread's open regions and stripes keep.
use Rattle.std.proofs.Common.{◌≡◌, ℕ, suc, ◌+◌, ◌<◌, ◌≤◌, Bool, true, false, not, List, [], ◌∷◌, length, refl, sym, ap, ◌∙◌, subst, arith, Option, Some, None, ◌⊎◌, inl, inr, ⊎_elim}
use Rattle.std.specs.Prelude.{slice_get, slice_set, if◌then◌else◌, nat_lt, ◌==◌}
use Rattle.std.proofs.lemmas.Bool.{cases_lt, cases_eq}
use Rattle.std.proofs.lemmas.Bool.Decides.{nat_tests}
use Rattle.std.proofs.lemmas.Option.{same_Some}
use Rattle.flow_code.specs.declared.act.Act.TheVariants as act
use Rattle.flow_code.specs.declared.act.Instr.{Instr}
use Rattle.flow_code.specs.declared.code.Code.{Code}
use Rattle.flow_code.specs.declared.thread.Stripe.{Stripe}
use Rattle.flow_code.specs.Holding.{number_of_stripe, number_of_pair, has_stripe, without_stripe, has_stripes, open_ones, with_pairs, takes, is_open_of, last_place, open_place, first_alone, pairs_after, region_with, cut}
use Rattle.flow_code.specs.Next.{act_in}
use Rattle.flow_code.specs.Threads.{Thread, OpenRegion, instr_in}
use Rattle.guard_paths.specs.Ways.{closed}
use Rattle.guard_paths.proofs.Guarded.{In}
use Rattle.guard_paths.proofs.Standing.{times, times_closed, times_other}
use Rattle.guard_paths.proofs.Opened.{many, many_filter, many_without, many_set, some_other, in_filtered, of_filtered, set_other, set_here, of_set, has_some, has_pair, pair_has, Ascends, ascends_filter, none_alone, before_alone, after_has}
use Rattle.guard_paths.proofs.Holdings.{is_of, here, functions_of, Kept, apart, way_on, takes_is, none_here, lessened}

-- ---- the last place

above : (m n : ℕ) → n ≤ m → (m ≡ n → ⊥) → n < m
above m n ge d = ⊎_elim (λ (lt : n < m). lt) (λ le. absurd (d (omega (arith, ge, le)))) (cases_lt n m)

last_some : {X : Type 0} (p : X → Bool) (n m : ℕ) (xs : List X) → last_place p n (Some m) xs ≡ None → ⊥
last_some p n m [] h = cc
last_some p n m (x ∷ xs) h = go (p x) h (λ k e. last_some p (n + 1) k xs e)
  where
    go : (b : Bool) → last_place p (n + 1) (if b then Some n else Some m) xs ≡ None → ((k : ℕ) → last_place p (n + 1) (Some k) xs ≡ None → ⊥) → ⊥
    go true h rec = rec n h
    go false h rec = rec m h

pub last_none : {X : Type 0} (p : X → Bool) (n : ℕ) (o : Option ℕ) (xs : List X) → last_place p n o xs ≡ None → many p xs ≡ 0
last_none p n o [] h = refl
last_none p n o (x ∷ xs) h = go (p x) refl h (λ e. last_none p (n + 1) o xs e)
  where
    go : (b : Bool) → p x ≡ b → last_place p (n + 1) (if b then Some n else o) xs ≡ None → (last_place p (n + 1) o xs ≡ None → many p xs ≡ 0) → (if b then suc (many p xs) else many p xs) ≡ 0
    go true e h rec = absurd (last_some p (n + 1) n xs h)
    go false e h rec = rec h

last_found : {X : Type 0} (p : X → Bool) (n : ℕ) (o : Option ℕ) (xs : List X) (j : ℕ) → last_place p n o xs ≡ Some j → (o ≡ Some j) ⊎ ((k : ℕ) × (x : X) × (slice_get xs k ≡ Some x) × (p x ≡ true) × (j ≡ n + k))
last_found p n o [] j h = inl h
last_found {X} p n o (x ∷ xs) j h = go (p x) refl h (λ q e. last_found p (n + 1) q xs j e)
  where
    later : ((k : ℕ) × (y : X) × (slice_get xs k ≡ Some y) × (p y ≡ true) × (j ≡ n + 1 + k)) → (k : ℕ) × (y : X) × (slice_get (x ∷ xs) k ≡ Some y) × (p y ≡ true) × (j ≡ n + k)
    later r = (suc r.0, r.1, r.2, r.3, omega (arith, r.4))

    go : (b : Bool) → p x ≡ b → last_place p (n + 1) (if b then Some n else o) xs ≡ Some j → ((q : Option ℕ) → last_place p (n + 1) q xs ≡ Some j → (q ≡ Some j) ⊎ ((k : ℕ) × (y : X) × (slice_get xs k ≡ Some y) × (p y ≡ true) × (j ≡ n + 1 + k))) → (o ≡ Some j) ⊎ ((k : ℕ) × (y : X) × (slice_get (x ∷ xs) k ≡ Some y) × (p y ≡ true) × (j ≡ n + k))
    go true e h rec = ⊎_elim (λ (q : Some n ≡ Some j). let z : n ≡ j = same_Some n j q in inr (0, x, refl, e, omega (arith, z))) (λ r. inr (later r)) (rec (Some n) h)
    go false e h rec = ⊎_elim inl (λ r. inr (later r)) (rec o h)

module _ (code : Code) where
  abbrev KeptBy : Thread → List OpenRegion → List Stripe → Type 0
  KeptBy th rs ss = Kept code th.below th.top.function th.top.instr rs ss

  abbrev At : Thread → Option Instr
  At th = instr_in (slice_get code.functions th.top.function) th.top.instr

  not_taken : (th : Thread) (q r : ℕ) → act_in (At th) ≡ Some (act.Give q) → takes (At th) r ≡ false
  not_taken th q r e = takes_is (At th) (act.Give q) r e

  -- ---- where no such region is open

  pub give_none : (th : Thread) (q : ℕ) → act_in (At th) ≡ Some (act.Give q) → open_place code th q ≡ None → KeptBy th th.regions th.stripes → Kept code th.below th.top.function (th.top.instr + 1) th.regions th.stripes
  give_none th q e o k = record {
    top = record { opened = closed q k.top.opened; way = way_on code th.top.function th.top.instr k.top.opened (act.Give q) (th.top.instr + 1) k.top.way e (0, omega arith, refl); few = few };
    calls = k.calls;
    others = k.others;
    placed = k.placed;
    held = k.held;
    ordered = k.ordered;
  }
    where
      few : (r : ℕ) → many (is_of code (length th.below) th.top.function r) th.regions ≤ times r (closed q k.top.opened) + here code (length th.below) th.top.function (th.top.instr + 1) th.regions r
      few r = ⊎_elim
          (λ (z : q ≡ r). let n : many (is_of code (length th.below) th.top.function r) th.regions ≡ 0 = subst (λ i. many (is_of code (length th.below) th.top.function i) th.regions ≡ 0) z (last_none (is_open_of code th q) 0 None th.regions o) in omega (arith, n))
          (λ ne. omega (arith, k.top.few r, none_here code (length th.below) th.top.function th.top.instr th.regions r (not_taken th q r e), times_other r q k.top.opened (apart q r ne)))
          (cases_eq q r)

  -- ---- where one is

  -- the open region that the Give closes
  pub record Giving (th : Thread) (q i : ℕ) : Type 0 where
    pub x : OpenRegion
    pub at : slice_get th.regions i ≡ Some x
    pub is : is_of code (length th.below) th.top.function q x ≡ true

  pub giving : (th : Thread) (q i : ℕ) → open_place code th q ≡ Some i → Giving th q i
  giving th q i o = ⊎_elim (λ (h : None ≡ Some i). cc) (λ (r : (k : ℕ) × (y : OpenRegion) × (slice_get th.regions k ≡ Some y) × (is_open_of code th q y ≡ true) × (i ≡ 0 + k)). let z : i ≡ r.0 = omega (arith, r.4) in record { x = r.1; at = ap (slice_get th.regions) z ∙ r.2; is = r.3 }) (last_found (is_open_of code th q) 0 None th.regions i o)

  -- with some of its pairs
  cut_is : (rs : List OpenRegion) (i : ℕ) (x : OpenRegion) (ys : List (ℕ × ℕ)) → slice_get rs i ≡ Some x → cut rs i ys ≡ open_ones (slice_set rs i (with_pairs x ys))
  cut_is rs i x ys h = ap (λ o. open_ones (region_with o ys rs i)) h

  cut_few : (rs : List OpenRegion) (i : ℕ) (x : OpenRegion) (ys : List (ℕ × ℕ)) → slice_get rs i ≡ Some x → (m g r : ℕ) → many (is_of code m g r) (cut rs i ys) ≤ many (is_of code m g r) rs
  cut_few rs i x ys h m g r = omega (arith, ap (many (is_of code m g r)) (cut_is rs i x ys h), many_filter (is_of code m g r) has_stripes (slice_set rs i (with_pairs x ys)), many_set (is_of code m g r) rs i x (with_pairs x ys) h refl)

  cut_from : (rs : List OpenRegion) (i : ℕ) (x : OpenRegion) (ys : List (ℕ × ℕ)) → slice_get rs i ≡ Some x → (z : OpenRegion) → In z (cut rs i ys) → (z ≡ with_pairs x ys) ⊎ In z rs
  cut_from rs i x ys h z j = of_set rs i z (with_pairs x ys) (of_filtered has_stripes z (slice_set rs i (with_pairs x ys)) (subst (In z) (cut_is rs i x ys h) j)).0

  cut_places : (rs : List OpenRegion) (i : ℕ) (x : OpenRegion) (ys : List (ℕ × ℕ)) → slice_get rs i ≡ Some x → (z : OpenRegion) → In z (cut rs i ys) → (y : OpenRegion) × In y rs × (z.frame ≡ y.frame) × (z.instr ≡ y.instr)
  cut_places rs i x ys h z j = ⊎_elim (λ e. (x, (i, h), ap (λ (u : OpenRegion). u.frame) e, ap (λ (u : OpenRegion). u.instr) e)) (λ k. (z, k, refl, refl)) (cut_from rs i x ys h z j)

  -- another region stays as it is
  cut_other : (rs : List OpenRegion) (i : ℕ) (x : OpenRegion) (ys : List (ℕ × ℕ)) → slice_get rs i ≡ Some x → (j : ℕ) (z : OpenRegion) (n : ℕ) → slice_get rs j ≡ Some z → (j ≡ i → ⊥) → has_stripe z.stripes n ≡ true → In z (cut rs i ys)
  cut_other rs i x ys h j z n g ne s = subst (In z) (sym (cut_is rs i x ys h)) (in_filtered has_stripes z (slice_set rs i (with_pairs x ys)) (j, set_other rs i j z (with_pairs x ys) g ne) (has_some z n s))

  cut_mine : (rs : List OpenRegion) (i : ℕ) (x : OpenRegion) (ys : List (ℕ × ℕ)) → slice_get rs i ≡ Some x → (n : ℕ) → has_stripe ys n ≡ true → In (with_pairs x ys) (cut rs i ys)
  cut_mine rs i x ys h n s = subst (In (with_pairs x ys)) (sym (cut_is rs i x ys h)) (in_filtered has_stripes (with_pairs x ys) (slice_set rs i (with_pairs x ys)) (i, set_here rs i x (with_pairs x ys) h) (has_some (with_pairs x ys) n s))

  -- a stripe that two regions have
  cut_shared : (rs : List OpenRegion) (i : ℕ) (x : OpenRegion) (ys : List (ℕ × ℕ)) (n : ℕ) → slice_get rs i ≡ Some x → 2 ≤ many (λ (r : OpenRegion). has_stripe r.stripes n) rs → (z : OpenRegion) × In z (cut rs i ys) × (has_stripe z.stripes n ≡ true)
  cut_shared rs i x ys n h two = let o = some_other (λ (r : OpenRegion). has_stripe r.stripes n) rs i two in (o.1, cut_other rs i x ys h o.0 o.1 n o.2 o.4 o.3, o.3)

  cut_ordered : (rs : List OpenRegion) (i : ℕ) (x : OpenRegion) (ys : List (ℕ × ℕ)) → slice_get rs i ≡ Some x → Ascends ys → ((z : OpenRegion) → In z rs → Ascends z.stripes) → (z : OpenRegion) → In z (cut rs i ys) → Ascends z.stripes
  cut_ordered rs i x ys h a all z j = ⊎_elim (λ e. subst (λ (u : OpenRegion). Ascends u.stripes) (sym e) a) (λ k. all z k) (cut_from rs i x ys h z j)

  -- ---- a stripe is given

  pub give_one : (th : Thread) (q i : ℕ) (y : ℕ × ℕ) (g : Giving th q i) → act_in (At th) ≡ Some (act.Give q) → first_alone th.regions g.x.stripes ≡ Some y → KeptBy th th.regions th.stripes → KeptBy th (cut th.regions i (pairs_after (number_of_pair y) g.x.stripes)) (without_stripe (number_of_pair y) th.stripes)
  give_one th q i y g e h k =
      lessened code th.below th.top.function th.top.instr th.regions (cut th.regions i (pairs_after (number_of_pair y) g.x.stripes)) th.stripes (without_stripe (number_of_pair y) th.stripes)
      (λ r. not_taken th q r e) (cut_few th.regions i g.x (pairs_after (number_of_pair y) g.x.stripes) g.at) (cut_places th.regions i g.x (pairs_after (number_of_pair y) g.x.stripes) g.at) held
      (cut_ordered th.regions i g.x (pairs_after (number_of_pair y) g.x.stripes) g.at (ascends_filter (λ x. nat_lt (number_of_pair y) (number_of_pair x)) g.x.stripes (k.ordered g.x (i, g.at))) k.ordered) k
    where
      mine : (z : Stripe) → has_stripe g.x.stripes (number_of_stripe z) ≡ true → (number_of_stripe z ≡ number_of_pair y → ⊥) → (x : OpenRegion) × In x (cut th.regions i (pairs_after (number_of_pair y) g.x.stripes)) × (has_stripe x.stripes (number_of_stripe z) ≡ true)
      mine z s ne =
          let p = has_pair g.x.stripes (number_of_stripe z) s in
          ⊎_elim
          (λ (lt : number_of_pair p.0 < number_of_pair y). cut_shared th.regions i g.x (pairs_after (number_of_pair y) g.x.stripes) (number_of_stripe z) g.at (subst (λ n. 2 ≤ many (λ (r : OpenRegion). has_stripe r.stripes n) th.regions) p.2 (before_alone th.regions g.x.stripes y p.0 (k.ordered g.x (i, g.at)) h p.1 lt)))
          (λ ge.
          let b : has_stripe (pairs_after (number_of_pair y) g.x.stripes) (number_of_stripe z) ≡ true = pair_has (pairs_after (number_of_pair y) g.x.stripes) p.0 (number_of_stripe z) (after_has (number_of_pair y) g.x.stripes p.0 p.1 (⊎_elim (λ (d : number_of_pair p.0 ≡ number_of_pair y). absurd (ne (sym p.2 ∙ d))) (λ d. above (number_of_pair p.0) (number_of_pair y) ge d) (cases_eq (number_of_pair p.0) (number_of_pair y)))) p.2 in
          (with_pairs g.x (pairs_after (number_of_pair y) g.x.stripes), cut_mine th.regions i g.x (pairs_after (number_of_pair y) g.x.stripes) g.at (number_of_stripe z) b, b))
          (cases_lt (number_of_pair p.0) (number_of_pair y))

      held : (z : Stripe) → In z (without_stripe (number_of_pair y) th.stripes) → (x : OpenRegion) × In x (cut th.regions i (pairs_after (number_of_pair y) g.x.stripes)) × (has_stripe x.stripes (number_of_stripe z) ≡ true)
      held z j =
          let f = of_filtered (λ (x : Stripe). not (number_of_stripe x == number_of_pair y)) z th.stripes j in
          let o = k.held z f.0 in
          ⊎_elim
          (λ (w : o.1.0 ≡ i). let u : o.0 ≡ g.x = same_Some o.0 g.x (sym o.1.1 ∙ ap (slice_get th.regions) w ∙ g.at) in mine z (ap (λ (v : OpenRegion). has_stripe v.stripes (number_of_stripe z)) (sym u) ∙ o.2) (differs (number_of_stripe z) (number_of_pair y) f.1))
          (λ ne. (o.0, cut_other th.regions i g.x (pairs_after (number_of_pair y) g.x.stripes) g.at o.1.0 o.0 (number_of_stripe z) o.1.1 ne o.2, o.2))
          (cases_eq o.1.0 i)
        where
          differs : (m n : ℕ) → not (m == n) ≡ true → m ≡ n → ⊥
          differs m n h e = go (m == n) (grind (arith, nat_tests, e)) h
            where
              go : (b : Bool) → b ≡ true → not b ≡ true → ⊥
              go true p q = cc
              go false p q = cc

  -- ---- no stripe is left to give

  pub give_done : (th : Thread) (q i : ℕ) (g : Giving th q i) → act_in (At th) ≡ Some (act.Give q) → first_alone th.regions g.x.stripes ≡ None → KeptBy th th.regions th.stripes → Kept code th.below th.top.function (th.top.instr + 1) (cut th.regions i []) th.stripes
  give_done th q i g e h k = record {
    top = record { opened = closed q k.top.opened; way = way_on code th.top.function th.top.instr k.top.opened (act.Give q) (th.top.instr + 1) k.top.way e (0, omega arith, refl); few = few };
    calls = k.calls;
    others = λ m f s. let o = k.others m f s in record { opened = o.opened; way = o.way; few = λ r. omega (arith, cut_few th.regions i g.x [] g.at m f.function r, o.few r) };
    placed = λ x j. let y = cut_places th.regions i g.x [] g.at x j in let p = k.placed y.0 y.1 in (p.0, p.1, ap (slice_get (functions_of th.below th.top.function)) y.2 ∙ p.2, ap (λ n. takes (instr_in (slice_get code.functions p.0) n) p.1) y.3 ∙ p.3);
    held = held;
    ordered = cut_ordered th.regions i g.x [] g.at tt k.ordered;
  }
    where
      gone : many (is_of code (length th.below) th.top.function q) (cut th.regions i []) + 1 ≤ many (is_of code (length th.below) th.top.function q) th.regions
      gone = omega (arith, ap (many (is_of code (length th.below) th.top.function q)) (cut_is th.regions i g.x [] g.at), many_without (is_of code (length th.below) th.top.function q) has_stripes (slice_set th.regions i (with_pairs g.x [])) i (with_pairs g.x []) (set_here th.regions i g.x (with_pairs g.x []) g.at) refl g.is, many_set (is_of code (length th.below) th.top.function q) th.regions i g.x (with_pairs g.x []) g.at refl)

      few : (r : ℕ) → many (is_of code (length th.below) th.top.function r) (cut th.regions i []) ≤ times r (closed q k.top.opened) + here code (length th.below) th.top.function (th.top.instr + 1) (cut th.regions i []) r
      few r = ⊎_elim
          (λ (z : q ≡ r). let n : many (is_of code (length th.below) th.top.function r) (cut th.regions i []) ≤ times r (closed r k.top.opened) = mine r z in omega (arith, n, ap (λ p. times r (closed p k.top.opened)) z))
          (λ ne. omega (arith, cut_few th.regions i g.x [] g.at (length th.below) th.top.function r, k.top.few r, none_here code (length th.below) th.top.function th.top.instr th.regions r (not_taken th q r e), times_other r q k.top.opened (apart q r ne)))
          (cases_eq q r)
        where
          mine : (r : ℕ) → q ≡ r → many (is_of code (length th.below) th.top.function r) (cut th.regions i []) ≤ times r (closed r k.top.opened)
          mine r z = subst (λ n. many (is_of code (length th.below) th.top.function n) (cut th.regions i []) ≤ times n (closed n k.top.opened)) z (omega (arith, gone, k.top.few q, none_here code (length th.below) th.top.function th.top.instr th.regions q (not_taken th q q e), times_closed q k.top.opened))

      held : (z : Stripe) → In z th.stripes → (x : OpenRegion) × In x (cut th.regions i []) × (has_stripe x.stripes (number_of_stripe z) ≡ true)
      held z j =
          let o = k.held z j in
          ⊎_elim
          (λ (w : o.1.0 ≡ i).
          let u : o.0 ≡ g.x = same_Some o.0 g.x (sym o.1.1 ∙ ap (slice_get th.regions) w ∙ g.at) in
          let p = has_pair g.x.stripes (number_of_stripe z) (ap (λ (v : OpenRegion). has_stripe v.stripes (number_of_stripe z)) (sym u) ∙ o.2) in
          cut_shared th.regions i g.x [] (number_of_stripe z) g.at (subst (λ n. 2 ≤ many (λ (r : OpenRegion). has_stripe r.stripes n) th.regions) p.2 (none_alone th.regions g.x.stripes p.0 h p.1)))
          (λ ne. (o.0, cut_other th.regions i g.x [] g.at o.1.0 o.0 (number_of_stripe z) o.1.1 ne o.2, o.2))
          (cases_eq o.1.0 i)
