-- Each state of a thread keeps its open regions and stripes by the ways through its functions.
use Rattle.std.proofs.Common.{◌≡◌, ℕ, zero, suc, ◌+◌, ◌-◌, ◌*◌, ◌||◌, Bool, true, false, not, ℤ, pos, List, [], ◌∷◌, length, map, take, drop, filter, refl, sym, ap, ◌∙◌, subst, arith, Option, Some, None, ◌⊎◌, inl, inr, ⊎_elim, position, Result, Ok, Err}
use Rattle.std.specs.Prelude.{slice_get, if◌then◌else◌, ◌==◌}
use Rattle.std.specs.List.{Contains}
use Rattle.std.proofs.lemmas.Bool.Decides.{nat_tests}
use Rattle.std.proofs.lemmas.Option.{same_Some}
use Rattle.sync_objects.specs.Setup.{SetupView}
use Rattle.sync_objects.specs.declared.operation.Op.TheVariants as op
use Rattle.rr_base.specs.declared.trap.Trap.{Trap}
use Rattle.word_semantics.specs.declared.event.Due.{Due}
use Rattle.word_semantics.specs.declared.event.Due.TheVariants as due
use Rattle.word_semantics.specs.declared.event.Onward.{Onward}
use Rattle.word_semantics.specs.declared.event.Onward.TheVariants as onward
use Rattle.word_semantics.specs.declared.library_call.LibraryCall.{LibraryCall}
use Rattle.word_semantics.specs.declared.library_call.LibraryCall.TheVariants as call
use Rattle.word_semantics.specs.Library.{library_onward, piece_of}
use Rattle.word_semantics.specs.Registers.{register, words_of}
use Rattle.flow_code.specs.declared.act.Act.{Act}
use Rattle.flow_code.specs.declared.act.Act.TheVariants as act
use Rattle.flow_code.specs.declared.code.Code.{Code}
use Rattle.flow_code.specs.declared.region.Region.{Region}
use Rattle.flow_code.specs.declared.thread.Phase.{Phase}
use Rattle.flow_code.specs.declared.thread.Phase.TheVariants as phase
use Rattle.flow_code.specs.declared.thread.Stripe.{Stripe}
use Rattle.flow_code.specs.Holding.{number_of_stripe, number_of_pair, is_listed, has_stripe, has_stripes, open_ones, with_pairs, lacked, taken_before, opened, region_of, taken, open_place, first_alone, alone_at, pairs_at, to_give, gives_at, parting, owes, held, left_of, left_after, with_stripe, without_stripe, cut, pairs_after}
use Rattle.flow_code.specs.Next.{act_in, act_at, pointers_of, past, given, computed, entered, back_in, one_made, end_onward, returned, resumed, branch_to, call_after, on_unless, act_after, begun_after, phase_after, owed_at, with_owed, after_due, same_stripe, due_of, caller, result_of, value_of, stepped}
use Rattle.flow_code.specs.Stripes.{end_lock}
use Rattle.flow_code.specs.Threads.{Frame, Thread, OpenRegion, instr_in, objects_in, is_main}
use Rattle.flow_code.specs.Works.{work_of}
use Rattle.guard_paths.specs.Reached.{is_early, Reached, starts, steps, loses, stops, shuts}
use Rattle.guard_paths.specs.Ways.{nexts, begins}
use Rattle.guard_paths.proofs.Guarded.{In}
use Rattle.guard_paths.proofs.Opened.{many_filter, many_map, in_filtered, of_filtered, of_set, has_some, has_pair, pair_has, Ascends, ascends_filter}
use Rattle.guard_paths.proofs.Holdings.{is_of, Kept, is_still, moved, called, GiveAll, back, ends_empty, lessened, takes_is, not_taking}
use Rattle.guard_paths.proofs.Takings.{take_more, take_done, take_past}
use Rattle.guard_paths.proofs.Givings.{give_none, giving, give_one, give_done}

-- ---- what a thread keeps in each phase

abbrev pub KeptIn : Phase → Type 0 → Type 0 → Type 0
KeptIn phase.Running K E = K
KeptIn phase.Fresh K E = E
KeptIn (phase.Begun f) K E = E
KeptIn (phase.Loaded f w) K E = E
KeptIn _ K E = Unit {0}

abbrev pub IsEmpty : Thread → Type 0
IsEmpty th = (th.regions ≡ []) × (th.stripes ≡ [])

abbrev pub IsKept : Code → Thread → Type 0
IsKept code th = KeptIn th.phase (Kept code th.below th.top.function th.top.instr th.regions th.stripes) (IsEmpty th)

kept_late : (ph : Phase) (K E : Type 0) → is_early ph ≡ false → K → KeptIn ph K E
kept_late phase.Running K E e k = k
kept_late phase.Fresh K E e k = cc
kept_late (phase.Begun f) K E e k = cc
kept_late (phase.Loaded f w) K E e k = cc
kept_late phase.Ended K E e k = tt
kept_late phase.Halted K E e k = tt
kept_late (phase.Trapped kind line) K E e k = tt
kept_late phase.Stopped K E e k = tt
kept_late phase.Closed K E e k = tt

kept_early : (ph : Phase) (K E : Type 0) → is_early ph ≡ true → E → KeptIn ph K E
kept_early phase.Running K E e k = cc
kept_early phase.Fresh K E e k = k
kept_early (phase.Begun f) K E e k = k
kept_early (phase.Loaded f w) K E e k = k
kept_early phase.Ended K E e k = tt
kept_early phase.Halted K E e k = tt
kept_early (phase.Trapped kind line) K E e k = tt
kept_early phase.Stopped K E e k = tt
kept_early phase.Closed K E e k = tt

kept_map : (ph : Phase) (K L E F : Type 0) → (K → L) → (E → F) → KeptIn ph K E → KeptIn ph L F
kept_map phase.Running K L E F f g k = f k
kept_map phase.Fresh K L E F f g k = g k
kept_map (phase.Begun h) K L E F f g k = g k
kept_map (phase.Loaded h w) K L E F f g k = g k
kept_map phase.Ended K L E F f g k = tt
kept_map phase.Halted K L E F f g k = tt
kept_map (phase.Trapped kind line) K L E F f g k = tt
kept_map phase.Stopped K L E F f g k = tt
kept_map phase.Closed K L E F f g k = tt

-- ---- other marks on the same stripes

same_numbers : (b : Bool) (xs : List Stripe) (o : Option ℕ) (z : Stripe) → In z (with_owed b xs o) → (y : Stripe) × In y xs × (number_of_stripe z ≡ number_of_stripe y)
same_numbers b xs None z i = (z, i, refl)
same_numbers b xs (Some n) z i = go (slice_get xs n) refl i
  where
    go : (o : Option Stripe) → slice_get xs n ≡ o → In z (owed_at b xs n o) → (y : Stripe) × In y xs × (number_of_stripe z ≡ number_of_stripe y)
    go None e i = (z, i, refl)
    go (Some x) e i = ⊎_elim (λ q. (x, (n, e), ap number_of_stripe q)) (λ j. (z, j, refl)) (of_set xs n z (record x { owed = b }) i)

module _ (code : Code) where
  restriped : (below : List Frame) (f w : ℕ) (rs : List OpenRegion) (ss zs : List Stripe) → ((z : Stripe) → In z zs → (y : Stripe) × In y ss × (number_of_stripe z ≡ number_of_stripe y)) → Kept code below f w rs ss → Kept code below f w rs zs
  restriped below f w rs ss zs h k = record {
    top = k.top;
    calls = k.calls;
    others = k.others;
    placed = k.placed;
    held = λ z i. let y = h z i in let x = k.held y.0 y.1 in (x.0, x.1, ap (has_stripe x.0.stripes) y.2 ∙ x.2);
    ordered = k.ordered;
  }

  -- ---- the end by pthread_exit

  listed_in : (xs : List Stripe) (z : Stripe) → In z xs → is_listed xs (number_of_stripe z) ≡ true
  listed_in [] z (k, h) = cc
  listed_in (x ∷ xs) z (zero, h) = let e : (number_of_stripe x == number_of_stripe z) ≡ true = (let q : number_of_stripe x ≡ number_of_stripe z = ap number_of_stripe (same_Some x z h) in grind (arith, nat_tests, q)) in ap (λ b. b || is_listed xs (number_of_stripe z)) e
  listed_in (x ∷ xs) z (suc k, h) = ap (λ b. (number_of_stripe x == number_of_stripe z) || b) (listed_in xs z (k, h)) ∙ any (number_of_stripe x == number_of_stripe z)
    where
      any : (b : Bool) → (b || true) ≡ true
      any true = refl
      any false = refl

  abbrev kept_pairs : List Stripe → OpenRegion → OpenRegion
  kept_pairs zs r = with_pairs r (filter (λ x. is_listed zs (number_of_pair x)) r.stripes)

  abbrev kept_ones : List Stripe → List OpenRegion → List OpenRegion
  kept_ones zs rs = open_ones (map (λ r. with_pairs r (filter (λ x. is_listed zs (number_of_pair x)) r.stripes)) rs)

  of_map : (zs : List Stripe) (rs : List OpenRegion) (x : OpenRegion) → In x (map (λ r. with_pairs r (filter (λ x. is_listed zs (number_of_pair x)) r.stripes)) rs) → (y : OpenRegion) × In y rs × (x ≡ kept_pairs zs y)
  of_map zs [] x (k, h) = cc
  of_map zs (r ∷ rs) x (zero, h) = (r, (0, refl), sym (same_Some (kept_pairs zs r) x h))
  of_map zs (r ∷ rs) x (suc k, h) = let y = of_map zs rs x (k, h) in (y.0, (suc y.1.0, y.1.1), y.2)

  to_map : (zs : List Stripe) (rs : List OpenRegion) (y : OpenRegion) → In y rs → In (kept_pairs zs y) (map (λ r. with_pairs r (filter (λ x. is_listed zs (number_of_pair x)) r.stripes)) rs)
  to_map zs [] y (k, h) = cc
  to_map zs (r ∷ rs) y (zero, h) = (0, ap (λ u. Some (kept_pairs zs u)) (same_Some r y h))
  to_map zs (r ∷ rs) y (suc k, h) = let i = to_map zs rs y (k, h) in (suc i.0, i.1)

  kept_keeping : (below : List Frame) (f w : ℕ) (rs : List OpenRegion) (ss zs : List Stripe) (a : Act) → act_in (instr_in (slice_get code.functions f) w) ≡ Some a → is_still a ≡ true → ((z : Stripe) → In z zs → In z ss) → Kept code below f w rs ss → Kept code below f w (kept_ones zs rs) zs
  kept_keeping below f w rs ss zs a e q sub k =
      lessened code below f w rs (kept_ones zs rs) ss zs (λ r. takes_is (instr_in (slice_get code.functions f) w) a r e ∙ not_taking a r q)
      (λ m g r. omega (arith, many_filter (is_of code m g r) has_stripes (map (λ r. with_pairs r (filter (λ x. is_listed zs (number_of_pair x)) r.stripes)) rs), many_map (is_of code m g r) (kept_pairs zs) rs (λ x. refl)))
      (λ x i. let y = of_map zs rs x (of_filtered has_stripes x (map (λ r. with_pairs r (filter (λ x. is_listed zs (number_of_pair x)) r.stripes)) rs) i).0 in (y.0, y.1, ap (λ (u : OpenRegion). u.frame) y.2, ap (λ (u : OpenRegion). u.instr) y.2))
      (λ z i.
      let x = k.held z (sub z i) in
      let p = has_pair x.0.stripes (number_of_stripe z) x.2 in
      let h : has_stripe (filter (λ x. is_listed zs (number_of_pair x)) x.0.stripes) (number_of_stripe z) ≡ true = pair_has (filter (λ x. is_listed zs (number_of_pair x)) x.0.stripes) p.0 (number_of_stripe z) (in_filtered (λ x. is_listed zs (number_of_pair x)) p.0 x.0.stripes p.1 (ap (is_listed zs) p.2 ∙ listed_in zs z i)) p.2 in
      (kept_pairs zs x.0, in_filtered has_stripes (kept_pairs zs x.0) (map (λ r. with_pairs r (filter (λ x. is_listed zs (number_of_pair x)) r.stripes)) rs) (to_map zs rs x.0 x.1) (has_some (kept_pairs zs x.0) (number_of_stripe z) h), h))
      (λ x i. let y = of_map zs rs x (of_filtered has_stripes x (map (λ r. with_pairs r (filter (λ x. is_listed zs (number_of_pair x)) r.stripes)) rs) i).0 in subst (λ (u : OpenRegion). Ascends u.stripes) (sym y.2) (ascends_filter (λ x. is_listed zs (number_of_pair x)) y.0.stripes (k.ordered y.0 y.1)))
      k

  parting_is : (c : LibraryCall) (made : ℕ) (ss xs : List Stripe) → parting c made ss ≡ xs → (xs ≡ []) ⊎ (xs ≡ ss)
  parting_is call.Exit zero ss xs e = inr (sym e)
  parting_is _ _ ss xs e = inl (sym e)

  left_in : (xs : List Stripe) (z : Stripe) → In z (left_of xs) → In z xs
  left_in xs z i = go (owes xs) i
    where
      of_rest : (xs : List Stripe) → In z (drop 1 xs) → In z xs
      of_rest [] (k, h) = cc
      of_rest (x ∷ xs) (k, h) = (suc k, h)

      go : (b : Bool) → In z (if b then held xs else drop 1 xs) → In z xs
      go true i = (of_filtered (λ (x : Stripe). not x.owed) z xs i).0
      go false i = of_rest xs i

  module _ (s : SetupView) (t : ℕ) (all : GiveAll code) where
    abbrev Now : Thread → Type 0
    Now th = Kept code th.below th.top.function th.top.instr th.regions th.stripes

    onward_by : (th : Thread) (a : Act) → is_early th.phase ≡ false → act_at code th.top ≡ Some a → is_still a ≡ true → Contains (nexts a th.top.instr) (th.top.instr + 1) → Now th → KeptIn th.phase (Kept code th.below th.top.function (th.top.instr + 1) th.regions th.stripes) (IsEmpty th)
    onward_by th a e at q c k = kept_late th.phase (Kept code th.below th.top.function (th.top.instr + 1) th.regions th.stripes) (IsEmpty th) e (moved code th.below th.top.function th.top.instr th.regions th.stripes a (th.top.instr + 1) at q c k)

    stay : (th : Thread) → is_early th.phase ≡ false → Now th → IsKept code th
    stay th e k = kept_late th.phase (Now th) (IsEmpty th) e k

    given_on : (th : Thread) (g : Frame) (o : Option ℕ) (v : ℕ) (below : List Frame) → is_early th.phase ≡ false → Kept code below g.function (g.instr + 1) th.regions th.stripes → KeptIn th.phase (Kept code below (past (given g o v)).function (past (given g o v)).instr th.regions th.stripes) (IsEmpty th)
    given_on th g None v below e k = kept_late th.phase (Kept code below g.function (g.instr + 1) th.regions th.stripes) (IsEmpty th) e k
    given_on th g (Some r) v below e k = kept_late th.phase (Kept code below g.function (g.instr + 1) th.regions th.stripes) (IsEmpty th) e k

    compute_kept : (th : Thread) (into : ℕ) (a : Act) (r : Result ℕ Trap) → is_early th.phase ≡ false → act_at code th.top ≡ Some a → is_still a ≡ true → Contains (nexts a th.top.instr) (th.top.instr + 1) → Now th → IsKept code (computed th into r)
    compute_kept th into a (Ok w) e at q c k = onward_by th a e at q c k
    compute_kept th into a (Err kind) e at q c k = stay th e k

    library_kept : (th : Thread) (a : Act) (into : Option ℕ) (o : Onward) → is_early th.phase ≡ false → act_at code th.top ≡ Some a → is_still a ≡ true → Contains (nexts a th.top.instr) (th.top.instr + 1) → Now th → IsKept code (resumed th into o)
    library_kept th a into (onward.Stays kept) e at q c k = stay th e k
    library_kept th a into (onward.Gives w) e at q c k = given_on th th.top into w th.below e (moved code th.below th.top.function th.top.instr th.regions th.stripes a (th.top.instr + 1) at q c k)
    library_kept th a into onward.Ends e at q c k = tt

    parting_kept : (th q : Thread) (c : LibraryCall) (a : Act) (xs : List Stripe) → parting c th.top.made th.stripes ≡ xs → is_early th.phase ≡ false → act_at code th.top ≡ Some a → is_still a ≡ true → Now th → IsKept code q → IsKept code (left_after th xs q)
    parting_kept th q c a [] p e at h k l = l
    parting_kept th q c a (x ∷ xs) p e at h k l = ⊎_elim
        (λ (z : x ∷ xs ≡ []). cc)
        (λ (z : x ∷ xs ≡ th.stripes). kept_late th.phase (Kept code th.below th.top.function th.top.instr (kept_ones (left_of (x ∷ xs)) th.regions) (left_of (x ∷ xs))) ((kept_ones (left_of (x ∷ xs)) th.regions ≡ []) × (left_of (x ∷ xs) ≡ [])) e
        (kept_keeping th.below th.top.function th.top.instr th.regions th.stripes (left_of (x ∷ xs)) a at h (λ u i. subst (In u) z (left_in (x ∷ xs) u i)) k))
        (parting_is c th.top.made th.stripes (x ∷ xs) p)

    end_kept : (th : Thread) (b : Bool) (made : ℕ) → is_early th.phase ≡ false → Now th → IsKept code (end_onward b th made)
    end_kept th true made e k = tt
    end_kept th false zero e k = stay th e k
    end_kept th false (suc zero) e k = stay th e k
    end_kept th false (suc (suc n)) e k = tt

    back_kept : (th : Thread) (value : ℕ) (v : Option ℕ) (o : Option Frame) → slice_get th.below (length th.below - 1) ≡ o → is_early th.phase ≡ false → act_at code th.top ≡ Some (act.Return v) → Now th → IsKept code (back_in code th value o)
    back_kept th value v None g e at k = stay th e k
    back_kept th value v (Some f) g e at k = given_on th f (result_of (act_at code f)) value (take (length th.below - 1) th.below) e (back code th.below th.top.function th.top.instr th.regions th.stripes v f all at g k)

    return_kept : (th : Thread) (value : ℕ) (v : Option ℕ) → is_early th.phase ≡ false → act_at code th.top ≡ Some (act.Return v) → Now th → IsKept code (returned code th value)
    return_kept th value v e at k = go (length th.below == 0)
      where
        go : (b : Bool) → IsKept code (if b then end_onward (is_main code th.top.function) th th.top.made else back_in code th value (slice_get th.below (length th.below - 1)))
        go true = end_kept th (is_main code th.top.function) th.top.made e k
        go false = back_kept th value v (slice_get th.below (length th.below - 1)) refl e at k

    take_kept : (th : Thread) (q : ℕ) (o : Option Region) (n : Option ℕ) → lacked code th o ≡ n → is_early th.phase ≡ false → act_at code th.top ≡ Some (act.Take q) → Now th → IsKept code (on_unless n (taken code th o n))
    take_kept th q None None l e at k = kept_late th.phase (Kept code th.below th.top.function (th.top.instr + 1) th.regions th.stripes) (IsEmpty th) e (take_past code th q at k)
    take_kept th q None (Some n) l e at k = cc
    take_kept th q (Some r) None l e at k = kept_late th.phase (Kept code th.below th.top.function (th.top.instr + 1) (opened th (taken_before code th r (8 * end_lock code r))) th.stripes) ((opened th (taken_before code th r (8 * end_lock code r)) ≡ []) × (th.stripes ≡ [])) e (take_done code th r (8 * end_lock code r) q at k)
    take_kept th q (Some r) (Some n) l e at k = kept_late th.phase (Kept code th.below th.top.function th.top.instr (opened th (taken_before code th r (n + 1))) (with_stripe n th.stripes)) ((opened th (taken_before code th r (n + 1)) ≡ []) × (with_stripe n th.stripes ≡ [])) e (take_more code th r n q at l k)

    give_kept : (th : Thread) (q : ℕ) (o : Option ℕ) (n : Option (ℕ × ℕ)) → open_place code th q ≡ o → alone_at th.regions o ≡ n → is_early th.phase ≡ false → act_at code th.top ≡ Some (act.Give q) → Now th → IsKept code (on_unless n (gives_at th o n))
    give_kept th q None None p l e at k = kept_late th.phase (Kept code th.below th.top.function (th.top.instr + 1) th.regions th.stripes) (IsEmpty th) e (give_none code th q at p k)
    give_kept th q None (Some n) p l e at k = cc
    give_kept th q (Some i) None p l e at k =
        let g = giving code th q i p in
        kept_late th.phase (Kept code th.below th.top.function (th.top.instr + 1) (cut th.regions i []) th.stripes) ((cut th.regions i [] ≡ []) × (th.stripes ≡ [])) e (give_done code th q i g at (ap (λ o. first_alone th.regions (pairs_at o)) (sym g.at) ∙ l) k)
    give_kept th q (Some i) (Some y) p l e at k =
        let g = giving code th q i p in
        let r = give_one code th q i y g at (ap (λ o. first_alone th.regions (pairs_at o)) (sym g.at) ∙ l) k in
        kept_late th.phase (Kept code th.below th.top.function th.top.instr (cut th.regions i (pairs_after (number_of_pair y) (pairs_at (slice_get th.regions i)))) (without_stripe (number_of_pair y) th.stripes))
        ((cut th.regions i (pairs_after (number_of_pair y) (pairs_at (slice_get th.regions i))) ≡ []) × (without_stripe (number_of_pair y) th.stripes ≡ [])) e
        (subst (λ o. Kept code th.below th.top.function th.top.instr (cut th.regions i (pairs_after (number_of_pair y) (pairs_at o))) (without_stripe (number_of_pair y) th.stripes)) (sym g.at) r)

    branch_in : (w a b n : ℕ) → Contains (a ∷ b ∷ []) (branch_to w a b)
    branch_in w a b n = go (w == 0)
      where
        go : (c : Bool) → Contains (a ∷ b ∷ []) (if c then b else a)
        go true = (1, omega arith, refl)
        go false = (0, omega arith, refl)

    act_kept : (th : Thread) (a : Act) (answer : ℤ) → is_early th.phase ≡ false → act_at code th.top ≡ Some a → Now th → IsKept code (act_after code s t th (Some a) answer)
    act_kept th (act.Compute into work) answer e at k = compute_kept th into (act.Compute into work) (work_of s.slots code.sites (pointers_of code th.top) th.top.registers work) e at refl (0, omega arith, refl) k
    act_kept th (act.Alloc into site None) answer e at k = onward_by th (act.Alloc into site None) e at refl (0, omega arith, refl) k
    act_kept th (act.Alloc into site (Some size)) answer e at k = onward_by th (act.Alloc into site (Some size)) e at refl (0, omega arith, refl) k
    act_kept th (act.LoadCell into through) answer e at k = onward_by th (act.LoadCell into through) e at refl (0, omega arith, refl) k
    act_kept th (act.StoreCell through from) answer e at k = onward_by th (act.StoreCell through from) e at refl (0, omega arith, refl) k
    act_kept th act.Mark answer e at k = onward_by th act.Mark e at refl (0, omega arith, refl) k
    act_kept th (act.Call g arguments into) answer e at k = called code th.below th.top.function th.top.instr th.regions th.stripes (act.Call g arguments into) (one_made th.top (pos 0)) g at refl refl refl refl k
    act_kept th (act.Library c arguments into) answer e at k =
        parting_kept th (call_after code s t th c arguments into answer) c (act.Library c arguments into) (parting c th.top.made th.stripes) refl e at refl k
        (library_kept (record th { printed = th.printed + length (piece_of c (words_of th.top.registers arguments)) }) (act.Library c arguments into) into (library_onward (caller code s t th) c (words_of th.top.registers arguments) th.top.made th.top.kept answer) e at refl (0, omega arith, refl) k)
    act_kept th (act.Jump to) answer e at k = kept_late th.phase (Kept code th.below th.top.function to th.regions th.stripes) (IsEmpty th) e (moved code th.below th.top.function th.top.instr th.regions th.stripes (act.Jump to) to at refl (0, omega arith, refl) k)
    act_kept th (act.Branch on then_at else_at) answer e at k =
        kept_late th.phase (Kept code th.below th.top.function (branch_to (register th.top.registers on) then_at else_at) th.regions th.stripes) (IsEmpty th) e
        (moved code th.below th.top.function th.top.instr th.regions th.stripes (act.Branch on then_at else_at) (branch_to (register th.top.registers on) then_at else_at) at refl (branch_in (register th.top.registers on) then_at else_at 0) k)
    act_kept th (act.Return value) answer e at k = return_kept th (value_of th.top.registers value) value e at k
    act_kept th (act.Take r) answer e at k = take_kept th r (region_of code th.top r) (lacked code th (region_of code th.top r)) refl e at k
    act_kept th (act.Give r) answer e at k = give_kept th r (open_place code th r) (to_give code th r) refl refl e at k

    -- ---- phases

    -- a thread enters its first function with nothing open
    first_kept : (th : Thread) (f : ℕ) (arguments : List ℕ) → IsEmpty th → IsKept code (entered code s t th [] f arguments)
    first_kept th f arguments e = subst (λ rs. Kept code [] f (length (objects_in code f)) rs th.stripes) (sym e.0) (subst (λ ss. Kept code [] f (length (objects_in code f)) [] ss) (sym e.1) (record {
      top = record { opened = []; way = begins; few = λ r. omega arith };
      calls = λ m g h. cc;
      others = λ m g h. absurd (nothing m g h);
      placed = λ x i. absurd (empty x i);
      held = λ z i. absurd (empty z i);
      ordered = λ x i. absurd (empty x i);
    }))
      where
        nothing : (m : ℕ) (g : Frame) → slice_get [] m ≡ Some g → ⊥
        nothing m g h = cc

        empty : {X : Type 0} (x : X) → In x [] → ⊥
        empty x (k, h) = cc

    phase_kept : (th : Thread) (ph : Phase) (answer : ℤ) → th.phase ≡ ph → KeptIn ph (Now th) (IsEmpty th) → IsKept code (phase_after code s t th ph answer)
    phase_kept th phase.Fresh answer e k = k
    phase_kept th (phase.Begun f) answer e k = go t
      where
        go : (n : ℕ) → IsKept code (begun_after code s n th f answer)
        go zero = first_kept th f [] k
        go (suc n) = k
    phase_kept th (phase.Loaded f w) answer e k = first_kept th f (w ∷ []) k
    phase_kept th phase.Running answer e k = go (act_at code th.top) refl
      where
        late : is_early th.phase ≡ false
        late = ap is_early e

        go : (o : Option Act) → act_at code th.top ≡ o → IsKept code (act_after code s t th o answer)
        go None g = kept_late th.phase (Now th) (IsEmpty th) late k
        go (Some a) g = act_kept th a answer late g k
    phase_kept th phase.Ended answer e k = subst (λ p. KeptIn p (Now th) (IsEmpty th)) (sym e) tt
    phase_kept th phase.Halted answer e k = subst (λ p. KeptIn p (Now th) (IsEmpty th)) (sym e) tt
    phase_kept th (phase.Trapped kind line) answer e k = subst (λ p. KeptIn p (Now th) (IsEmpty th)) (sym e) tt
    phase_kept th phase.Stopped answer e k = subst (λ p. KeptIn p (Now th) (IsEmpty th)) (sym e) tt
    phase_kept th phase.Closed answer e k = subst (λ p. KeptIn p (Now th) (IsEmpty th)) (sym e) tt

    -- ---- steps

    no_stripes : (b : Bool) (o : Option ℕ) → with_owed b [] o ≡ []
    no_stripes b None = refl
    no_stripes b (Some n) = refl

    repaid_kept : (th : Thread) (b : Bool) (o : Option ℕ) → IsKept code th → KeptIn th.phase (Kept code th.below th.top.function th.top.instr th.regions (with_owed b th.stripes o)) ((th.regions ≡ []) × (with_owed b th.stripes o ≡ []))
    repaid_kept th b o k = kept_map th.phase (Now th) (Kept code th.below th.top.function th.top.instr th.regions (with_owed b th.stripes o)) (IsEmpty th) ((th.regions ≡ []) × (with_owed b th.stripes o ≡ []))
        (λ k. restriped th.below th.top.function th.top.instr th.regions th.stripes (with_owed b th.stripes o) (λ z i. same_numbers b th.stripes o z i) k)
        (λ e. (e.0, ap (λ xs. with_owed b xs o) e.1 ∙ no_stripes b o)) k

    due_kept : (th : Thread) (d : Due) (answer : ℤ) → IsKept code th → IsKept code (after_due code s t th d answer)
    due_kept th due.Nothing answer k = k
    due_kept th due.Quiet answer k = phase_kept th th.phase answer refl k
    due_kept th (due.Load c) answer k = phase_kept th th.phase answer refl k
    due_kept th (due.Store c w) answer k = phase_kept th th.phase answer refl k
    due_kept th due.Mark answer k = phase_kept th th.phase answer refl k
    due_kept th (due.Operate op.Retake obj) answer k = repaid_kept th false (position (λ x. x.owed) th.stripes) k
    due_kept th (due.Operate _ obj) answer k = phase_kept th th.phase answer refl k
    due_kept th (due.Trap kind) answer k = tt

    step_kept : (th : Thread) (answer : ℤ) → IsKept code th → IsKept code (stepped code s t th answer)
    unfolding stepped
    step_kept th answer k = due_kept th (due_of code s t th) answer k

    pub reached_kept : {th : Thread} → Reached code s t th → IsKept code th
    reached_kept (starts {th} e h g) = kept_early th.phase (Now th) (IsEmpty th) e (g, h)
    reached_kept (steps {th} answer r) = step_kept th answer (reached_kept r)
    reached_kept (loses {th} lock stripe r) = repaid_kept th true (position (same_stripe lock stripe) th.stripes) (reached_kept r)
    reached_kept (stops r) = tt
    reached_kept (shuts r) = tt

    -- at the end of its first function a thread has no region open, and has and owes no stripe
    pub last_return : {th : Thread} (value : Option ℕ) → Reached code s t th → th.phase ≡ phase.Running → th.below ≡ [] → act_at code th.top ≡ Some (act.Return value) → (th.regions ≡ []) × (th.stripes ≡ [])
    last_return {th} value r p b at =
        let k : Now th = subst (λ ph. KeptIn ph (Now th) (IsEmpty th)) p (reached_kept r) in
        ends_empty code th.top.function th.top.instr th.regions th.stripes value all at (subst (λ (fs : List Frame). Kept code fs th.top.function th.top.instr th.regions th.stripes) b k)
