-- A Take keeps what a thread keeps of its open regions, and opens its own.
use Rattle.std.proofs.Common.{◌≡◌, ℕ, zero, suc, ◌+◌, ◌-◌, ◌*◌, ◌<◌, ◌≤◌, ◌&&◌, ◌||◌, Bool, true, false, not, List, ◌∷◌, length, refl, sym, ap, ◌∙◌, subst, arith, Some, None, ⊎_elim}
use Rattle.std.specs.Prelude.{slice_get, if◌then◌else◌, ◌==◌, max}
use Rattle.std.proofs.lemmas.Bool.{cases_lt}
use Rattle.std.proofs.lemmas.Bool.Decides.{nat_tests}
use Rattle.std.proofs.lemmas.Option.{same_Some}
use Rattle.sync_objects.specs.Setup.{SetupView}
use Rattle.flow_code.specs.declared.act.Act.TheVariants as act
use Rattle.flow_code.specs.declared.code.Code.{Code}
use Rattle.flow_code.specs.declared.region.Region.{Region}
use Rattle.flow_code.specs.Holding.{has_stripe, after_pairs, taken_pairs, left_from, lacked, is_lacked, is_listed, taken_before, opened, region_in, region_of, takes}
use Rattle.flow_code.specs.Next.{act_at}
use Rattle.flow_code.specs.Stripes.{wants_number, first_lock, end_lock, stripes_from, wanted}
use Rattle.flow_code.specs.Threads.{Frame, Thread, OpenRegion, instr_in}
use Rattle.guard_paths.specs.Walked.{Opening}
use Rattle.guard_paths.proofs.Guarded.{In}
use Rattle.guard_paths.proofs.Standing.{times, one_if}
use Rattle.guard_paths.proofs.Opened.{has_append, from_has, first_found}
use Rattle.guard_paths.proofs.Holdings.{is_of, last_here, Kept, takes_is, way_on, some_many}
use Rattle.open_regions.specs.OpenStripes.{is_exit}
use Rattle.open_regions.proofs.Walking.{OpenOnce, ActAt, walk_on}
use Rattle.open_regions.proofs.Promises.{taken_at, taken_same, promised, in_promised, two_true, both_true, takes_at, Has, Stands, Partly, Holds, HoldsBy, Keeps, is_same, has_kept, others_kept, arrives}
use Rattle.open_regions.proofs.Taken.{opened_keeps, opened_new, opened_from, opened_taken, after_append, after_from, of_from}

or_right : (b : Bool) → (b || true) ≡ true
or_right true = refl
or_right false = refl

module _ (code : Code) (s : SetupView) (th : Thread) where
  abbrev Taken : List (ℕ × ℕ)
  Taken = taken_at (length th.below) th.top.instr th.regions

  -- all that the region wants before a number is taken, once the Take has gone on to before it
  taken_all : (q : ℕ) (r : Region) (to i : ℕ) → ActAt code s th.top.function th.top.instr ≡ Some (act.Take q) → region_of code th.top q ≡ Some r → HoldsBy code s th → wants_number code th.top.registers r i ≡ true → 8 * first_lock r ≤ i → i < to → has_stripe (taken_before code th r to) i ≡ true
  taken_all q r to i at re h wants le lt = has_append (taken_pairs th) (stripes_from (wants_number code th.top.registers r) (to - left_from th r) (left_from th r)) i ∙ ⊎_elim before following (cases_lt i (after_pairs (taken_pairs th)))
    where
      before : i < after_pairs (taken_pairs th) → (has_stripe (taken_pairs th) i || has_stripe (stripes_from (wants_number code th.top.registers r) (to - left_from th r) (left_from th r)) i) ≡ true
      before l =
          let z : i < after_pairs Taken = omega (arith, l, ap after_pairs (taken_same th)) in
          ap (λ b. b || has_stripe (stripes_from (wants_number code th.top.registers r) (to - left_from th r) (left_from th r)) i) (ap (λ ps. has_stripe ps i) (taken_same th) ∙ h.partly q r i at re wants le z)

      above : (a b : ℕ) → a ≤ i → b ≤ i → max a b ≤ i
      above a b l k = omega (arith, l, k)

      following : after_pairs (taken_pairs th) ≤ i → (has_stripe (taken_pairs th) i || has_stripe (stripes_from (wants_number code th.top.registers r) (to - left_from th r) (left_from th r)) i) ≡ true
      following ge =
          let l : left_from th r ≤ i = above (8 * first_lock r) (after_pairs (taken_pairs th)) le ge in
          let u : i < left_from th r + (to - left_from th r) = omega (arith, l, lt) in
          ap (λ b. has_stripe (taken_pairs th) i || b) (from_has (wants_number code th.top.registers r) (to - left_from th r) (left_from th r) i l u wants) ∙ or_right (has_stripe (taken_pairs th) i)

  more_taken : (r : Region) (to n : ℕ) → has_stripe Taken n ≡ true → has_stripe (taken_before code th r to) n ≡ true
  more_taken r to n h = has_append (taken_pairs th) (stripes_from (wants_number code th.top.registers r) (to - left_from th r) (left_from th r)) n ∙ ap (λ b. b || has_stripe (stripes_from (wants_number code th.top.registers r) (to - left_from th r) (left_from th r)) n) (ap (λ ps. has_stripe ps n) (taken_same th) ∙ h)

  keeps : (r : Region) (to : ℕ) → Keeps code s (λ y. false) th.regions (opened th (taken_before code th r to))
  keeps r to y n p i h = opened_keeps th (taken_before code th r to) (more_taken r to) y n i h

  others_on : (r : Region) (to q : ℕ) → ActAt code s th.top.function th.top.instr ≡ Some (act.Take q) → HoldsBy code s th → (m : ℕ) (g : Frame) → slice_get th.below m ≡ Some g → Stands code s m g.function g.instr g.registers (opened th (taken_before code th r to)) None
  others_on r to q at h m g e = others_kept code s (λ y. false) th.regions (opened th (taken_before code th r to)) m g (keeps r to) (λ i y t. refl) (h.others (ap is_exit at) m g e)

  has_old : (r : Region) (to q : ℕ) → ActAt code s th.top.function th.top.instr ≡ Some (act.Take q) → (h : HoldsBy code s th) (x : Opening) → In x h.top.opened → Has code s (length th.below) th.top.function (opened th (taken_before code th r to)) x
  has_old r to q at h x i = has_kept code s (λ y. false) th.regions (opened th (taken_before code th r to)) (length th.below) th.top.function x (keeps r to) (λ y t. refl) (h.top.has x (subst (λ z. In x z) (sym (ap (λ o. promised o h.top.opened) at)) i))

  same_region : (q : ℕ) (r u : Region) → region_of code th.top q ≡ Some r → region_in (slice_get code.functions th.top.function) q ≡ Some u → r ≡ u
  same_region q r u e f = same_Some r u (sym e ∙ f)

  -- ---- one more stripe

  pub take_more : (r : Region) (n q : ℕ) → act_at code th.top ≡ Some (act.Take q) → region_of code th.top q ≡ Some r → lacked code th (Some r) ≡ Some n → HoldsBy code s th → Holds code s th.below th.top.function th.top.instr th.top.registers (opened th (taken_before code th r (n + 1)))
  take_more r n q at re l h = record {
    top = record { opened = h.top.opened; walked = h.top.walked; has = λ x i. has_old r (n + 1) q at h x (in_promised (ActAt code s th.top.function th.top.instr) x h.top.opened i) };
    others = λ e. others_on r (n + 1) q at h;
    partly = partly;
  }
    where
      found : (is_lacked code th r n ≡ true) × (left_from th r ≤ n) × (n < left_from th r + (8 * end_lock code r - left_from th r))
      found = first_found (is_lacked code th r) (8 * end_lock code r - left_from th r) (left_from th r) n l

      has : has_stripe (taken_before code th r (n + 1)) n ≡ true
      has =
          let w = both_true (wants_number code th.top.registers r n) (not (is_listed th.stripes n)) found.0 in
          has_append (taken_pairs th) (stripes_from (wants_number code th.top.registers r) (n + 1 - left_from th r) (left_from th r)) n
          ∙ ap (λ b. has_stripe (taken_pairs th) n || b) (from_has (wants_number code th.top.registers r) (n + 1 - left_from th r) (left_from th r) n found.1 (let p = found.1 in omega (arith, p)) w.0) ∙ or_right (has_stripe (taken_pairs th) n)

      at_most : (a b : ℕ) → max a b ≤ n → b ≤ n + 1
      at_most a b le = omega (arith, le)

      few : after_pairs (taken_before code th r (n + 1)) ≤ n + 1
      few = after_append (n + 1) (taken_pairs th) (stripes_from (wants_number code th.top.registers r) (n + 1 - left_from th r) (left_from th r)) (at_most (8 * first_lock r) (after_pairs (taken_pairs th)) found.1)
          (after_from (wants_number code th.top.registers r) (n + 1 - left_from th r) (left_from th r) (n + 1) (let p = found.1 in omega (arith, p)))

      partly : Partly code s (length th.below) th.top.function th.top.instr th.top.registers (opened th (taken_before code th r (n + 1)))
      partly p u i to re' wants le lt =
          let z : q ≡ p = same_take q p (sym at ∙ to) in
          let y : r ≡ u = same_region q r u re (ap (region_in (slice_get code.functions th.top.function)) z ∙ re') in
          let x : taken_at (length th.below) th.top.instr (opened th (taken_before code th r (n + 1))) ≡ taken_before code th r (n + 1) = opened_taken th (taken_before code th r (n + 1)) n has in
          ap (λ ps. has_stripe ps i) x
          ∙ taken_all q r (n + 1) i at re h (ap (λ v. wants_number code th.top.registers v i) y ∙ wants) (omega (arith, le, ap first_lock y)) (omega (arith, lt, ap after_pairs x, few))
        where
          same_take : (a b : ℕ) → Some (act.Take a) ≡ Some (act.Take b) → a ≡ b
          same_take a b e = cc

  -- ---- the Take is over

  module _ (once : OpenOnce code) (q : ℕ) (at : act_at code th.top ≡ Some (act.Take q)) (k : Kept code th.below th.top.function th.top.instr th.regions th.stripes) where
    abbrev Now : ℕ → Bool
    Now r = takes (instr_in (slice_get code.functions th.top.function) th.top.instr) r

    -- a region of this frame is open on the way
    open_old : (r : ℕ) (x : OpenRegion) → In x th.regions → is_of code (length th.below) th.top.function r x ≡ true → 1 ≤ times r (q ∷ k.top.opened)
    open_old r x i t = by (q == r) (takes_is (instr_in (slice_get code.functions th.top.function) th.top.instr) (act.Take q) r at)
      where
        none : (b : Bool) → Now r ≡ false → one_if (b && Now r) ≡ 0
        none true e = ap one_if e
        none false e = refl

        by : (b : Bool) → Now r ≡ b → 1 ≤ (if b then suc (times r k.top.opened) else times r k.top.opened)
        by true e = omega arith
        by false e = omega (arith, some_many (is_of code (length th.below) th.top.function r) th.regions x i t, k.top.few r, none (last_here (length th.below) th.top.instr (slice_get th.regions (length th.regions - 1))) e)

    open_new : (r : ℕ) (x : OpenRegion) → x.instr ≡ th.top.instr → is_of code (length th.below) th.top.function r x ≡ true → 1 ≤ times r (q ∷ k.top.opened)
    open_new r x e t = by (q == r) (sym (takes_is (instr_in (slice_get code.functions th.top.function) th.top.instr) (act.Take q) r at) ∙ ap (λ w. takes (instr_in (slice_get code.functions th.top.function) w) r) (sym e) ∙ (both_true (x.frame == length th.below) (takes (instr_in (slice_get code.functions th.top.function) x.instr) r) t).1)
      where
        by : (b : Bool) → b ≡ true → 1 ≤ (if b then suc (times r k.top.opened) else times r k.top.opened)
        by true e = omega arith
        by false e = cc

    arrives_past : (rs : List OpenRegion) → ((r : ℕ) (x : OpenRegion) → In x rs → is_of code (length th.below) th.top.function r x ≡ true → 1 ≤ times r (q ∷ k.top.opened)) → Partly code s (length th.below) th.top.function (th.top.instr + 1) th.top.registers rs
    arrives_past rs h = arrives code s (length th.below) th.top.function (th.top.instr + 1) th.top.registers rs (q ∷ k.top.opened) once (way_on code th.top.function th.top.instr k.top.opened (act.Take q) (th.top.instr + 1) k.top.way at (0, omega arith, refl)) h

    pub take_done : (r : Region) → region_of code th.top q ≡ Some r → HoldsBy code s th → Holds code s th.below th.top.function (th.top.instr + 1) th.top.registers (opened th (taken_before code th r (8 * end_lock code r)))
    take_done r re h = record {
      top = record {
        opened = (q, th.top.registers) ∷ h.top.opened;
        walked = walk_on code s th.top.function th.top.instr th.top.registers h.top.opened (act.Take q) (th.top.instr + 1) th.top.registers h.top.walked at (refl, refl);
        has = λ x i. has x (in_promised (ActAt code s th.top.function (th.top.instr + 1)) x ((q, th.top.registers) ∷ h.top.opened) i);
      };
      others = λ e. others_on r (8 * end_lock code r) q at h;
      partly = arrives_past (opened th (taken_before code th r (8 * end_lock code r)))
          (λ i x j t. ⊎_elim
          (λ (y : (y : OpenRegion) × In y th.regions × (x.frame ≡ y.frame) × (x.instr ≡ y.instr)). open_old i y.0 y.1 (sym (is_same code s (length th.below) th.top.function i y.0 x y.2 y.3) ∙ t))
          (λ e. open_new i x e t)
          (opened_from th (taken_before code th r (8 * end_lock code r)) x j));
    }
      where
        own : Has code s (length th.below) th.top.function (opened th (taken_before code th r (8 * end_lock code r))) (q, th.top.registers)
        own u i ru w =
            let y : r ≡ u = same_region q r u re ru in
            let f = of_from (wants_number code th.top.registers r) (8 * end_lock code r - 8 * first_lock r) (8 * first_lock r) i (ap (λ v. has_stripe (wanted code th.top.registers v) i) y ∙ w) in
            let t = taken_all q r (8 * end_lock code r) i at re h f.0 f.1 (let a = f.1 in let b = f.2 in omega (arith, a, b)) in
            let z = opened_new th (taken_before code th r (8 * end_lock code r)) i t in
            let here : (z.0.frame == length th.below) ≡ true = (let e = z.2 in grind (arith, nat_tests, e)) in (
              z.0,
              z.1,
              two_true (z.0.frame == length th.below) (takes (instr_in (slice_get code.functions th.top.function) z.0.instr) q) here (ap (λ n. takes (instr_in (slice_get code.functions th.top.function) n) q) z.3 ∙ takes_at (instr_in (slice_get code.functions th.top.function) th.top.instr) q at),
              ap (λ ps. has_stripe ps i) z.4 ∙ t,
            )

        has : (x : Opening) → In x ((q, th.top.registers) ∷ h.top.opened) → Has code s (length th.below) th.top.function (opened th (taken_before code th r (8 * end_lock code r))) x
        has x (zero, e) = subst (λ z. Has code s (length th.below) th.top.function (opened th (taken_before code th r (8 * end_lock code r))) z) (same_Some (q, th.top.registers) x e) own
        has x (suc n, e) = has_old r (8 * end_lock code r) q at h x (n, e)

    -- a region that isn't there
    pub take_past : region_of code th.top q ≡ None → HoldsBy code s th → Holds code s th.below th.top.function (th.top.instr + 1) th.top.registers th.regions
    take_past re h = record {
      top = record {
        opened = (q, th.top.registers) ∷ h.top.opened;
        walked = walk_on code s th.top.function th.top.instr th.top.registers h.top.opened (act.Take q) (th.top.instr + 1) th.top.registers h.top.walked at (refl, refl);
        has = λ x i. has x (in_promised (ActAt code s th.top.function (th.top.instr + 1)) x ((q, th.top.registers) ∷ h.top.opened) i);
      };
      others = λ e m g i. h.others (ap is_exit at) m g i;
      partly = arrives_past th.regions open_old;
    }
      where
        has : (x : Opening) → In x ((q, th.top.registers) ∷ h.top.opened) → Has code s (length th.below) th.top.function th.regions x
        has x (zero, e) = subst (λ z. Has code s (length th.below) th.top.function th.regions z) (same_Some (q, th.top.registers) x e) (λ u i ru w. absurd (no_region u (sym re ∙ ru)))
          where
            no_region : (u : Region) → None ≡ Some u → ⊥
            no_region u e = cc
        has x (suc n, e) = h.top.has x (subst (λ z. In x z) (sym (ap (λ o. promised o h.top.opened) at)) (n, e))
