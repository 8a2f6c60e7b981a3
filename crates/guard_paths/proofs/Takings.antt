-- Takes and Gives keep what a thread's open regions and stripes keep.
use Rattle.std.proofs.Common.{◌≡◌, ℕ, zero, suc, ◌+◌, ◌-◌, ◌*◌, ◌<◌, ◌≤◌, ◌&&◌, ◌||◌, Bool, true, false, not, List, [], ◌∷◌, ◌++◌, length, map, refl, sym, ap, ◌∙◌, subst, arith, Option, Some, None, ◌⊎◌, inl, inr, ⊎_elim}
use Rattle.std.specs.Prelude.{slice_get, slice_set, if◌then◌else◌, ◌==◌}
use Rattle.std.proofs.lemmas.Bool.{cases_eq}
use Rattle.std.proofs.lemmas.Bool.Decides.{nat_tests}
use Rattle.std.proofs.lemmas.Option.{same_Some, slice_get_within}
use Rattle.flow_code.specs.declared.act.Act.TheVariants as act
use Rattle.flow_code.specs.declared.act.Instr.{Instr}
use Rattle.flow_code.specs.declared.code.Code.{Code}
use Rattle.flow_code.specs.declared.region.Region.{Region}
use Rattle.flow_code.specs.declared.thread.Stripe.{Stripe}
use Rattle.flow_code.specs.Holding.{number_of_stripe, number_of_pair, is_listed, has_stripe, with_stripe, place_for, has_stripes, open_ones, with_pairs, after_pairs, is_opened_here, latest, pairs_at, taken_pairs, left_from, is_lacked, lacked, taken_before, latest_with, opened, takes_region, takes}
use Rattle.flow_code.specs.Next.{act_in}
use Rattle.flow_code.specs.Stripes.{stripe_of, wants_number, end_lock, stripes_from}
use Rattle.flow_code.specs.Threads.{Frame, Thread, OpenRegion, instr_in}
use Rattle.weak_valid.proofs.Accesses.{Each}
use Rattle.guard_paths.proofs.Guarded.{In}
use Rattle.guard_paths.proofs.Standing.{times, one_if}
use Rattle.guard_paths.proofs.Opened.{many, many_append, many_filter, many_set, in_filtered, of_filtered, set_other, set_here, of_set, length_set, of_append, in_first, in_second, of_insert, has_append, has_some, Ascends, below_end, ascends_append, number_back, from_above, from_ascends, from_has, first_found}
use Rattle.guard_paths.proofs.Holdings.{is_of, last_here, here, FrameKept, functions_of, Kept, at_end, length_more, length_map, apart, way_on}

-- the region that a Take opens
abbrev fresh_of : Thread → List (ℕ × ℕ) → OpenRegion
fresh_of th xs = record { frame = length th.below; instr = th.top.instr; stripes = xs }

-- ---- the latest open region

last_index : {X : Type 0} (xs : List X) (x : X) → length (xs ++ x ∷ []) - 1 ≡ length xs
last_index xs x = omega (arith, length_more xs x)

pub last_item : {X : Type 0} (xs : List X) (x : X) → slice_get (xs ++ x ∷ []) (length (xs ++ x ∷ []) - 1) ≡ Some x
last_item xs x = ap (slice_get (xs ++ x ∷ [])) (last_index xs x) ∙ at_end xs x

module _ (code : Code) where
  abbrev KeptBy : Thread → List OpenRegion → List Stripe → Type 0
  KeptBy th rs ss = Kept code th.below th.top.function th.top.instr rs ss

  -- the instruction at which the thread stands
  abbrev At : Thread → Option Instr
  At th = instr_in (slice_get code.functions th.top.function) th.top.instr

  here_true : (th : Thread) (x : OpenRegion) → is_opened_here th (Some x) ≡ true → (x.frame ≡ length th.below) × (x.instr ≡ th.top.instr)
  here_true th x h = split (x.frame == length th.below) (x.instr == th.top.instr) refl refl h
    where
      split : (a b : Bool) → (x.frame == length th.below) ≡ a → (x.instr == th.top.instr) ≡ b → (a && b) ≡ true → (x.frame ≡ length th.below) × (x.instr ≡ th.top.instr)
      split true true p q h = (grind (arith, nat_tests, p), grind (arith, nat_tests, q))
      split true false p q h = cc
      split false b p q h = cc

  -- ---- a Take

  -- what the latest region is, opened here or not
  pub data Latest (th : Thread) : Type 0 where
    mine : (x : OpenRegion) → slice_get th.regions (length th.regions - 1) ≡ Some x → is_opened_here th (Some x) ≡ true → Latest th
    none : is_opened_here th (latest th) ≡ false → Latest th

  find_latest : (th : Thread) → Latest th
  find_latest th = go (latest th) refl (is_opened_here th (latest th)) refl
    where
      go : (o : Option OpenRegion) → latest th ≡ o → (b : Bool) → is_opened_here th (latest th) ≡ b → Latest th
      go None e true h = none (ap (is_opened_here th) e)
      go (Some x) e true h = mine x e (ap (is_opened_here th) (sym e) ∙ h)
      go o e false h = none h

  -- the regions with the pairs xs of the latest one, which had them before
  mine_opened : (th : Thread) (x : OpenRegion) (xs : List (ℕ × ℕ)) → slice_get th.regions (length th.regions - 1) ≡ Some x → is_opened_here th (Some x) ≡ true → opened th xs ≡ slice_set th.regions (length th.regions - 1) (with_pairs x xs)
  mine_opened th x xs e h =
      ap (λ o. if is_opened_here th o then latest_with o xs th.regions else th.regions ++ open_ones (record { frame = length th.below; instr = th.top.instr; stripes = xs } ∷ [])) e
      ∙ ap (λ b. if b then slice_set th.regions (length th.regions - 1) (with_pairs x xs) else th.regions ++ open_ones (record { frame = length th.below; instr = th.top.instr; stripes = xs } ∷ [])) h

  none_opened : (th : Thread) (xs : List (ℕ × ℕ)) → is_opened_here th (latest th) ≡ false → opened th xs ≡ th.regions ++ open_ones (record { frame = length th.below; instr = th.top.instr; stripes = xs } ∷ [])
  none_opened th xs h = ap (λ b. if b then latest_with (latest th) xs th.regions else th.regions ++ open_ones (record { frame = length th.below; instr = th.top.instr; stripes = xs } ∷ [])) h

  mine_pairs : (th : Thread) (x : OpenRegion) → slice_get th.regions (length th.regions - 1) ≡ Some x → is_opened_here th (Some x) ≡ true → taken_pairs th ≡ x.stripes
  mine_pairs th x e h = ap (λ o. if is_opened_here th o then pairs_at o else []) e ∙ ap (λ b. if b then x.stripes else []) h

  none_pairs : (th : Thread) → is_opened_here th (latest th) ≡ false → taken_pairs th ≡ []
  none_pairs th h = ap (λ b. if b then pairs_at (latest th) else []) h

  -- what a Take leaves of the regions: no more of any Take but this, and of this one only if it was not open here
  pub record Taking (th : Thread) (xs : List (ℕ × ℕ)) : Type 0 where
    pub same : (m g r : ℕ) → many (is_of code m g r) (opened th xs) ≤ many (is_of code m g r) th.regions + one_if ((length th.below == m) && takes (instr_in (slice_get code.functions g) th.top.instr) r)
    pub few : (r : ℕ) (os : ℕ) → many (is_of code (length th.below) th.top.function r) th.regions ≤ os + here code (length th.below) th.top.function th.top.instr th.regions r → many (is_of code (length th.below) th.top.function r) (opened th xs) ≤ os + one_if (takes (At th) r)
    pub from : (x : OpenRegion) → In x (opened th xs) → ((y : OpenRegion) × In y th.regions × (x.frame ≡ y.frame) × (x.instr ≡ y.instr) × ((x.stripes ≡ y.stripes) ⊎ (x.stripes ≡ xs))) ⊎ ((x.frame ≡ length th.below) × (x.instr ≡ th.top.instr) × (x.stripes ≡ xs))
    pub kept : ((n : ℕ) → has_stripe (taken_pairs th) n ≡ true → has_stripe xs n ≡ true) → (y : OpenRegion) (n : ℕ) → In y th.regions → has_stripe y.stripes n ≡ true → (x : OpenRegion) × In x (opened th xs) × (has_stripe x.stripes n ≡ true)
    pub new : (n : ℕ) → has_stripe xs n ≡ true → (x : OpenRegion) × In x (opened th xs) × (has_stripe x.stripes n ≡ true)
    pub last : (n : ℕ) → has_stripe xs n ≡ true → last_here (length th.below) th.top.instr (slice_get (opened th xs) (length (opened th xs) - 1)) ≡ true

  true_here : (n w : ℕ) (x : OpenRegion) → x.frame ≡ n → x.instr ≡ w → last_here n w (Some x) ≡ true
  true_here n w x p q = two_true (x.frame == n) (x.instr == w) (grind (arith, nat_tests, p)) (grind (arith, nat_tests, q))
    where
      two_true : (p q : Bool) → p ≡ true → q ≡ true → (p && q) ≡ true
      two_true true q h k = k
      two_true false q h k = cc

  taking_mine : (th : Thread) (xs : List (ℕ × ℕ)) (x : OpenRegion) → slice_get th.regions (length th.regions - 1) ≡ Some x → is_opened_here th (Some x) ≡ true → Taking th xs
  taking_mine th xs x e h = record {
    same = λ m g r. omega (arith, ap (λ qs. many (is_of code m g r) qs) o, many_set (is_of code m g r) th.regions (length th.regions - 1) x (with_pairs x xs) e refl);
    few = λ r os le. omega (arith, le, ap (λ qs. many (is_of code (length th.below) th.top.function r) qs) o, many_set (is_of code (length th.below) th.top.function r) th.regions (length th.regions - 1) x (with_pairs x xs) e refl, at_most (last_here (length th.below) th.top.instr (slice_get th.regions (length th.regions - 1))) (takes (At th) r));
    from = λ y i. inl (of_old y (of_set th.regions (length th.regions - 1) y (with_pairs x xs) (subst (In y) o i)));
    kept = λ more y n i s. kept more y n i s;
    new = λ n s. (with_pairs x xs, subst (In (with_pairs x xs)) (sym o) (length th.regions - 1, set_here th.regions (length th.regions - 1) x (with_pairs x xs) e), s);
    last = λ n s. ap (λ (qs : List OpenRegion). last_here (length th.below) th.top.instr (slice_get qs (length qs - 1))) o
        ∙ ap (λ k. last_here (length th.below) th.top.instr (slice_get (slice_set th.regions (length th.regions - 1) (with_pairs x xs)) k)) (omega (arith, length_set th.regions (length th.regions - 1) (with_pairs x xs)))
        ∙ ap (last_here (length th.below) th.top.instr) (set_here th.regions (length th.regions - 1) x (with_pairs x xs) e)
        ∙ true_here (length th.below) th.top.instr (with_pairs x xs) (here_true th x h).0 (here_true th x h).1;
  }
    where
      o : opened th xs ≡ slice_set th.regions (length th.regions - 1) (with_pairs x xs)
      o = mine_opened th x xs e h

      at_most : (a b : Bool) → one_if (a && b) ≤ one_if b
      at_most true true = omega arith
      at_most true false = omega arith
      at_most false true = omega arith
      at_most false false = omega arith

      of_old : (y : OpenRegion) → (y ≡ with_pairs x xs) ⊎ In y th.regions → (z : OpenRegion) × In z th.regions × (y.frame ≡ z.frame) × (y.instr ≡ z.instr) × ((y.stripes ≡ z.stripes) ⊎ (y.stripes ≡ xs))
      of_old y (inl q) = (x, (length th.regions - 1, e), ap (λ (z : OpenRegion). z.frame) q, ap (λ (z : OpenRegion). z.instr) q, inr (ap (λ (z : OpenRegion). z.stripes) q))
      of_old y (inr i) = (y, i, refl, refl, inl refl)

      kept : ((n : ℕ) → has_stripe (taken_pairs th) n ≡ true → has_stripe xs n ≡ true) → (y : OpenRegion) (n : ℕ) → In y th.regions → has_stripe y.stripes n ≡ true → (z : OpenRegion) × In z (opened th xs) × (has_stripe z.stripes n ≡ true)
      kept more y n i s = ⊎_elim
          (λ (q : i.0 ≡ length th.regions - 1).
          let z : y ≡ x = same_Some y x (sym i.1 ∙ ap (slice_get th.regions) q ∙ e) in
          (with_pairs x xs, subst (In (with_pairs x xs)) (sym o) (length th.regions - 1, set_here th.regions (length th.regions - 1) x (with_pairs x xs) e), more n (ap (λ ps. has_stripe ps n) (mine_pairs th x e h ∙ ap (λ (u : OpenRegion). u.stripes) (sym z)) ∙ s)))
          (λ q. (y, subst (In y) (sym o) (i.0, set_other th.regions (length th.regions - 1) i.0 y (with_pairs x xs) i.1 q), s))
          (cases_eq i.0 (length th.regions - 1))

  taking_new : (th : Thread) (xs : List (ℕ × ℕ)) → is_opened_here th (latest th) ≡ false → Taking th xs
  taking_new th xs h = record {
    same = λ m g r. omega (arith, ap (λ qs. many (is_of code m g r) qs) o, many_append (is_of code m g r) th.regions (open_ones ((fresh_of th xs) ∷ [])), many_filter (is_of code m g r) has_stripes ((fresh_of th xs) ∷ []), one (is_of code m g r));
    few = λ r os le. omega (arith, le, ap (λ qs. many (is_of code (length th.below) th.top.function r) qs) o, many_append (is_of code (length th.below) th.top.function r) th.regions (open_ones ((fresh_of th xs) ∷ [])), many_filter (is_of code (length th.below) th.top.function r) has_stripes ((fresh_of th xs) ∷ []), one (is_of code (length th.below) th.top.function r), mine_only r, not_yet r);
    from = λ y i. ⊎_elim (λ j. inl (y, j, refl, refl, inl refl)) (λ j. inr (of_fresh y (of_filtered has_stripes y ((fresh_of th xs) ∷ []) j).0)) (of_append th.regions (open_ones ((fresh_of th xs) ∷ [])) y (subst (In y) o i));
    kept = λ more y n i s. (y, subst (In y) (sym o) (in_first th.regions (open_ones ((fresh_of th xs) ∷ [])) y i), s);
    new = λ n s. ((fresh_of th xs), subst (In (fresh_of th xs)) (sym o) (in_second th.regions (open_ones ((fresh_of th xs) ∷ [])) (fresh_of th xs) (in_filtered has_stripes (fresh_of th xs) ((fresh_of th xs) ∷ []) (0, refl) (has_some (fresh_of th xs) n s))), s);
    last = λ n s. ap (λ (qs : List OpenRegion). last_here (length th.below) th.top.instr (slice_get qs (length qs - 1))) (o ∙ ap (λ zs. th.regions ++ zs) (ap (λ b. if b then (fresh_of th xs) ∷ [] else []) (has_some (fresh_of th xs) n s)))
        ∙ ap (last_here (length th.below) th.top.instr) (last_item th.regions (fresh_of th xs))
        ∙ true_here (length th.below) th.top.instr (fresh_of th xs) refl refl;
  }
    where
      o : opened th xs ≡ th.regions ++ open_ones ((fresh_of th xs) ∷ [])
      o = none_opened th xs h

      one : (p : OpenRegion → Bool) → many p ((fresh_of th xs) ∷ []) ≡ one_if (p (fresh_of th xs))
      one p = go (p (fresh_of th xs))
        where
          go : (b : Bool) → (if b then 1 else 0) ≡ one_if b
          go true = refl
          go false = refl

      mine_only : (r : ℕ) → one_if (is_of code (length th.below) th.top.function r (fresh_of th xs)) ≤ one_if (takes (At th) r)
      mine_only r = go (length th.below == length th.below) (takes (At th) r)
        where
          go : (a b : Bool) → one_if (a && b) ≤ one_if b
          go true true = omega arith
          go true false = omega arith
          go false true = omega arith
          go false false = omega arith

      not_yet : (r : ℕ) → here code (length th.below) th.top.function th.top.instr th.regions r ≡ 0
      not_yet r = ap (λ b. one_if (b && takes (At th) r)) (same_test (slice_get th.regions (length th.regions - 1)) h)
        where
          same_test : (o : Option OpenRegion) → is_opened_here th o ≡ false → last_here (length th.below) th.top.instr o ≡ false
          same_test None h = refl
          same_test (Some x) h = h

      of_fresh : (y : OpenRegion) → In y ((fresh_of th xs) ∷ []) → (y.frame ≡ length th.below) × (y.instr ≡ th.top.instr) × (y.stripes ≡ xs)
      of_fresh y (zero, g) = let q = same_Some (record { frame = length th.below; instr = th.top.instr; stripes = xs }) y g in (ap (λ (z : OpenRegion). z.frame) (sym q), ap (λ (z : OpenRegion). z.instr) (sym q), ap (λ (z : OpenRegion). z.stripes) (sym q))
      of_fresh y (suc k, g) = cc

  -- ---- what a Take takes

  more_pairs : (th : Thread) (r : Region) (to n : ℕ) → has_stripe (taken_pairs th) n ≡ true → has_stripe (taken_before code th r to) n ≡ true
  more_pairs th r to n h = has_append (taken_pairs th) (stripes_from (wants_number code th.top.registers r) (to - left_from th r) (left_from th r)) n ∙ ap (λ b. b || has_stripe (stripes_from (wants_number code th.top.registers r) (to - left_from th r) (left_from th r)) n) h

  pairs_ascend : (th : Thread) → ((x : OpenRegion) → In x th.regions → Ascends x.stripes) → Ascends (taken_pairs th)
  pairs_ascend th h = go (find_latest th)
    where
      go : Latest th → Ascends (taken_pairs th)
      go (mine x e t) = subst Ascends (sym (mine_pairs th x e t)) (h x (length th.regions - 1, e))
      go (none t) = subst Ascends (sym (none_pairs th t)) tt

  before_ascends : (th : Thread) (r : Region) (to : ℕ) → ((x : OpenRegion) → In x th.regions → Ascends x.stripes) → Ascends (taken_before code th r to)
  before_ascends th r to h =
      ascends_append (left_from th r) (taken_pairs th) (stripes_from (wants_number code th.top.registers r) (to - left_from th r) (left_from th r))
      (pairs_ascend th h) (from_ascends (wants_number code th.top.registers r) (to - left_from th r) (left_from th r))
      (below (taken_pairs th) (below_end (taken_pairs th) (pairs_ascend th h))) (from_above (wants_number code th.top.registers r) (to - left_from th r) (left_from th r))
    where
      below : (xs : List (ℕ × ℕ)) → Each (λ x. number_of_pair x < after_pairs (taken_pairs th)) xs → Each (λ x. number_of_pair x < left_from th r) xs
      below [] e = tt
      below (x ∷ xs) e = (omega (arith, e.0), below xs e.1)

  takes_at : (th : Thread) (q r : ℕ) → act_in (At th) ≡ Some (act.Take q) → takes (At th) r ≡ (q == r)
  takes_at th q r e = go (At th) e
    where
      go : (o : Option Instr) → act_in o ≡ Some (act.Take q) → takes o r ≡ (q == r)
      go None e = cc
      go (Some i) e = ap (λ a. takes_region a r) (same_Some i.act (act.Take q) e)

  do_taking : (th : Thread) (xs : List (ℕ × ℕ)) → Taking th xs
  do_taking th xs = go (find_latest th)
    where
      go : Latest th → Taking th xs
      go (mine x e t) = taking_mine th xs x e t
      go (none t) = taking_new th xs t

  -- what stays of the frames and regions
  take_others : (th : Thread) (xs : List (ℕ × ℕ)) (ss : List Stripe) → KeptBy th th.regions ss → (m : ℕ) (g : Frame) → slice_get th.below m ≡ Some g → FrameKept code (opened th xs) m g.function g.instr (λ r. 0)
  take_others th xs ss k m g s =
      let o = k.others m g s in
      let z : (length th.below == m) ≡ false = apart (length th.below) m (λ e. omega (arith, e, slice_get_within th.below m g s)) in
      record { opened = o.opened; way = o.way; few = λ r. omega (arith, (do_taking th xs).same m g.function r, o.few r, ap (λ b. one_if (b && takes (instr_in (slice_get code.functions g.function) th.top.instr) r)) z) }

  take_placed : (th : Thread) (xs : List (ℕ × ℕ)) (ss : List Stripe) (q : ℕ) → act_in (At th) ≡ Some (act.Take q) → KeptBy th th.regions ss → (x : OpenRegion) → In x (opened th xs) → (g : ℕ) × (r : ℕ) × (slice_get (functions_of th.below th.top.function) x.frame ≡ Some g) × (takes (instr_in (slice_get code.functions g) x.instr) r ≡ true)
  take_placed th xs ss q e k x i = ⊎_elim old new ((do_taking th xs).from x i)
    where
      old : (y : OpenRegion) × In y th.regions × (x.frame ≡ y.frame) × (x.instr ≡ y.instr) × ((x.stripes ≡ y.stripes) ⊎ (x.stripes ≡ xs)) → (g : ℕ) × (r : ℕ) × (slice_get (functions_of th.below th.top.function) x.frame ≡ Some g) × (takes (instr_in (slice_get code.functions g) x.instr) r ≡ true)
      old y = let p = k.placed y.0 y.1 in (p.0, p.1, ap (slice_get (functions_of th.below th.top.function)) y.2 ∙ p.2, ap (λ n. takes (instr_in (slice_get code.functions p.0) n) p.1) y.3 ∙ p.3)

      new : (x.frame ≡ length th.below) × (x.instr ≡ th.top.instr) × (x.stripes ≡ xs) → (g : ℕ) × (r : ℕ) × (slice_get (functions_of th.below th.top.function) x.frame ≡ Some g) × (takes (instr_in (slice_get code.functions g) x.instr) r ≡ true)
      new y = (
        th.top.function,
        q,
        ap (slice_get (functions_of th.below th.top.function)) (y.0 ∙ sym (length_map (λ (h : Frame). h.function) th.below)) ∙ at_end (map (λ (h : Frame). h.function) th.below) th.top.function,
        ap (λ n. takes (instr_in (slice_get code.functions th.top.function) n) q) y.1 ∙ takes_at th q q e ∙ same_self q,
      )
        where
          same_self : (n : ℕ) → (n == n) ≡ true
          same_self n = grind (arith, nat_tests)

  take_ordered : (th : Thread) (xs : List (ℕ × ℕ)) (ss : List Stripe) → Ascends xs → KeptBy th th.regions ss → (x : OpenRegion) → In x (opened th xs) → Ascends x.stripes
  take_ordered th xs ss a k x i = ⊎_elim old (λ (y : (x.frame ≡ length th.below) × (x.instr ≡ th.top.instr) × (x.stripes ≡ xs)). subst Ascends (sym y.2) a) ((do_taking th xs).from x i)
    where
      old : (y : OpenRegion) × In y th.regions × (x.frame ≡ y.frame) × (x.instr ≡ y.instr) × ((x.stripes ≡ y.stripes) ⊎ (x.stripes ≡ xs)) → Ascends x.stripes
      old y = ⊎_elim (λ e. subst Ascends (sym e) (k.ordered y.0 y.1)) (λ e. subst Ascends (sym e) a) y.4

  -- one more stripe
  pub take_more : (th : Thread) (r : Region) (n q : ℕ) → act_in (At th) ≡ Some (act.Take q) → lacked code th (Some r) ≡ Some n → KeptBy th th.regions th.stripes → KeptBy th (opened th (taken_before code th r (n + 1))) (with_stripe n th.stripes)
  take_more th r n q e l k = record {
    top = record { opened = k.top.opened; way = k.top.way; few = λ i. omega (arith, t.few i (times i k.top.opened) (k.top.few i), ap (λ b. one_if (b && takes (At th) i)) (t.last n has), and_true (takes (At th) i)) };
    calls = k.calls;
    others = take_others th (taken_before code th r (n + 1)) th.stripes k;
    placed = take_placed th (taken_before code th r (n + 1)) th.stripes q e k;
    held = λ z i. ⊎_elim (λ y. new z y) (λ y. old z y) (of_insert th.stripes (place_for n th.stripes) z (record { lock = (stripe_of n).0; stripe = (stripe_of n).1; owed = false }) i);
    ordered = take_ordered th (taken_before code th r (n + 1)) th.stripes (before_ascends th r (n + 1) k.ordered) k;
  }
    where
      t : Taking th (taken_before code th r (n + 1))
      t = do_taking th (taken_before code th r (n + 1))

      and_true : (b : Bool) → one_if (true && b) ≡ one_if b
      and_true true = refl
      and_true false = refl

      found : (is_lacked code th r n ≡ true) × (left_from th r ≤ n) × (n < left_from th r + (8 * end_lock code r - left_from th r))
      found = first_found (is_lacked code th r) (8 * end_lock code r - left_from th r) (left_from th r) n l

      wanted : wants_number code th.top.registers r n ≡ true
      wanted = first (wants_number code th.top.registers r n) (not (is_listed th.stripes n)) found.0
        where
          first : (a b : Bool) → (a && b) ≡ true → a ≡ true
          first true b h = refl
          first false b h = cc

      has : has_stripe (taken_before code th r (n + 1)) n ≡ true
      has = has_append (taken_pairs th) (stripes_from (wants_number code th.top.registers r) (n + 1 - left_from th r) (left_from th r)) n
          ∙ ap (λ b. has_stripe (taken_pairs th) n || b) (from_has (wants_number code th.top.registers r) (n + 1 - left_from th r) (left_from th r) n found.1 (let p = found.1 in omega arith) wanted) ∙ any (has_stripe (taken_pairs th) n)
        where
          any : (b : Bool) → (b || true) ≡ true
          any true = refl
          any false = refl

      new : (z : Stripe) → z ≡ record { lock = (stripe_of n).0; stripe = (stripe_of n).1; owed = false } → (x : OpenRegion) × In x (opened th (taken_before code th r (n + 1))) × (has_stripe x.stripes (number_of_stripe z) ≡ true)
      new z y = let w = t.new n has in (w.0, w.1, ap (has_stripe w.0.stripes) (ap number_of_stripe y ∙ number_back n) ∙ w.2)

      old : (z : Stripe) → In z th.stripes → (x : OpenRegion) × In x (opened th (taken_before code th r (n + 1))) × (has_stripe x.stripes (number_of_stripe z) ≡ true)
      old z i = let h = k.held z i in t.kept (more_pairs th r (n + 1)) h.0 (number_of_stripe z) h.1 h.2

  taken_times : (th : Thread) (q r : ℕ) (os : List ℕ) → act_in (At th) ≡ Some (act.Take q) → times r os + one_if (takes (At th) r) ≡ times r (q ∷ os)
  taken_times th q r os e = ap (λ b. times r os + one_if b) (takes_at th q r e) ∙ go (q == r)
    where
      go : (b : Bool) → times r os + one_if b ≡ (if b then suc (times r os) else times r os)
      go true = omega arith
      go false = omega arith

  -- no more stripes
  pub take_done : (th : Thread) (r : Region) (to q : ℕ) → act_in (At th) ≡ Some (act.Take q) → KeptBy th th.regions th.stripes → Kept code th.below th.top.function (th.top.instr + 1) (opened th (taken_before code th r to)) th.stripes
  take_done th r to q e k = record {
    top = record { opened = q ∷ k.top.opened; way = way_on code th.top.function th.top.instr k.top.opened (act.Take q) (th.top.instr + 1) k.top.way e (0, omega arith, refl); few = λ i. omega (arith, t.few i (times i k.top.opened) (k.top.few i), taken_times th q i k.top.opened e) };
    calls = k.calls;
    others = take_others th (taken_before code th r to) th.stripes k;
    placed = take_placed th (taken_before code th r to) th.stripes q e k;
    held = λ z i. let h = k.held z i in t.kept (more_pairs th r to) h.0 (number_of_stripe z) h.1 h.2;
    ordered = take_ordered th (taken_before code th r to) th.stripes (before_ascends th r to k.ordered) k;
  }
    where
      t : Taking th (taken_before code th r to)
      t = do_taking th (taken_before code th r to)

  -- a region that isn't there
  pub take_past : (th : Thread) (q : ℕ) → act_in (At th) ≡ Some (act.Take q) → KeptBy th th.regions th.stripes → Kept code th.below th.top.function (th.top.instr + 1) th.regions th.stripes
  take_past th q e k = record {
    top = record { opened = q ∷ k.top.opened; way = way_on code th.top.function th.top.instr k.top.opened (act.Take q) (th.top.instr + 1) k.top.way e (0, omega arith, refl); few = λ i. omega (arith, k.top.few i, taken_times th q i k.top.opened e, at_most (last_here (length th.below) th.top.instr (slice_get th.regions (length th.regions - 1))) (takes (At th) i)) };
    calls = k.calls;
    others = k.others;
    placed = k.placed;
    held = k.held;
    ordered = k.ordered;
  }
    where
      at_most : (a b : Bool) → one_if (a && b) ≤ one_if b
      at_most true true = omega arith
      at_most true false = omega arith
      at_most false true = omega arith
      at_most false false = omega arith
