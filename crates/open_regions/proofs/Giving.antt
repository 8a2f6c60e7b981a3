-- A Give keeps what a thread keeps of its open regions, but for the one that it closes.
use Rattle.std.proofs.Common.{◌≡◌, ℕ, zero, suc, ◌+◌, ◌≤◌, ◌&&◌, Bool, true, false, List, [], ◌∷◌, length, refl, sym, ap, ◌∙◌, subst, arith, Option, Some, None, ⊎_elim}
use Rattle.std.specs.Prelude.{slice_get, slice_set, if◌then◌else◌, ◌==◌}
use Rattle.std.proofs.lemmas.Bool.{cases_eq}
use Rattle.std.proofs.lemmas.Bool.Decides.{nat_tests}
use Rattle.std.proofs.lemmas.Option.{same_Some, slice_get_within}
use Rattle.rr_base.proofs.Lists.{slice_get-set_other}
use Rattle.sync_objects.specs.Setup.{SetupView}
use Rattle.flow_code.specs.declared.act.Act.{Act}
use Rattle.flow_code.specs.declared.act.Act.TheVariants as act
use Rattle.flow_code.specs.declared.act.Instr.{Instr}
use Rattle.flow_code.specs.declared.code.Code.{Code}
use Rattle.flow_code.specs.Holding.{has_stripes, open_ones, with_pairs, takes_region, takes, is_open_of, last_place, open_place, region_with, cut}
use Rattle.flow_code.specs.Next.{act_at}
use Rattle.flow_code.specs.Threads.{Frame, Thread, OpenRegion, instr_in}
use Rattle.guard_paths.specs.Walked.{Opening, closed_with}
use Rattle.guard_paths.specs.Ways.{closed}
use Rattle.guard_paths.proofs.Guarded.{In}
use Rattle.guard_paths.proofs.Standing.{times, times_closed, times_other}
use Rattle.guard_paths.proofs.Opened.{many, in_filtered, of_filtered, set_other, set_here, has_some}
use Rattle.guard_paths.proofs.Holdings.{is_of, Kept, apart, way_on, takes_is, none_here, some_many}
use Rattle.guard_paths.proofs.Givings.{Giving, last_none}
use Rattle.open_regions.specs.OpenStripes.{is_exit}
use Rattle.open_regions.proofs.Walking.{closed_other, OpenOnce, ActAt, walk_on, open_once}
use Rattle.open_regions.proofs.Promises.{promised, in_promised, both_true, Has, Stands, Holds, HoldsBy, Keeps, has_kept, others_kept, arrives}

-- ---- lists

-- two items pass
two_many : {X : Type 0} (p : X → Bool) (xs : List X) (i j : ℕ) (x y : X) → slice_get xs i ≡ Some x → slice_get xs j ≡ Some y → (j ≡ i → ⊥) → p x ≡ true → p y ≡ true → 2 ≤ many p xs
two_many p [] i j x y e f ne a b = cc
two_many p (z ∷ xs) zero zero x y e f ne a b = absurd (ne refl)
two_many p (z ∷ xs) zero (suc j) x y e f ne a b =
    let t : p z ≡ true = ap p (same_Some z x e) ∙ a in
    omega (arith, ap (λ c. if c then suc (many p xs) else many p xs) t, some_many p xs y (j, f) b)
two_many p (z ∷ xs) (suc i) zero x y e f ne a b =
    let t : p z ≡ true = ap p (same_Some z y f) ∙ b in
    omega (arith, ap (λ c. if c then suc (many p xs) else many p xs) t, some_many p xs x (i, e) a)
two_many p (z ∷ xs) (suc i) (suc j) x y e f ne a b = by (p z) (two_many p xs i j x y e f (λ q. ne (ap suc q)) a b)
  where
    by : (c : Bool) → 2 ≤ many p xs → 2 ≤ (if c then suc (many p xs) else many p xs)
    by true le = omega (arith, le)
    by false le = le

-- where there is no last place, no item passes
no_place : {X : Type 0} (p : X → Bool) (n : ℕ) (xs : List X) (x : X) → last_place p n None xs ≡ None → In x xs → p x ≡ true → ⊥
no_place p n xs x h i t = omega (arith, last_none p n None xs h, some_many p xs x i t)

-- a Take is that of one region
one_taken : (o : Option Instr) (r q : ℕ) → takes o r ≡ true → takes o q ≡ true → r ≡ q
one_taken None r q h k = cc
one_taken (Some i) r q h k = by i.act h k
  where
    by : (a : Act) → takes_region a r ≡ true → takes_region a q ≡ true → r ≡ q
    by (act.Take n) h k = let x : n ≡ r = grind (arith, nat_tests, h) in let y : n ≡ q = grind (arith, nat_tests, k) in sym x ∙ y
    by _ h k = cc

-- ---- a region that is cut

cut_is : (rs : List OpenRegion) (i : ℕ) (x : OpenRegion) (ys : List (ℕ × ℕ)) → slice_get rs i ≡ Some x → cut rs i ys ≡ open_ones (slice_set rs i (with_pairs x ys))
cut_is rs i x ys h = ap (λ o. open_ones (region_with o ys rs i)) h

-- what is left when it has no stripes stood elsewhere
cut_elsewhere : (rs : List OpenRegion) (i : ℕ) (x z : OpenRegion) → slice_get rs i ≡ Some x → In z (cut rs i []) → (j : ℕ) × (slice_get rs j ≡ Some z) × (j ≡ i → ⊥)
cut_elsewhere rs i x z h k = by (of_filtered has_stripes z (slice_set rs i (with_pairs x [])) (subst (λ qs. In z qs) (cut_is rs i x [] h) k))
  where
    by : In z (slice_set rs i (with_pairs x [])) × (has_stripes z ≡ true) → (j : ℕ) × (slice_get rs j ≡ Some z) × (j ≡ i → ⊥)
    by (j, t) =
        let ne : j.0 ≡ i → ⊥ = λ e.
        let y : z ≡ with_pairs x [] = same_Some z (with_pairs x []) (sym j.1 ∙ ap (slice_get (slice_set rs i (with_pairs x []))) e ∙ set_here rs i x (with_pairs x []) h) in
        let w : has_stripes (with_pairs x []) ≡ true = ap has_stripes (sym y) ∙ t in cc in
        (j.0, sym (slice_get-set_other rs i j.0 (with_pairs x []) ne) ∙ j.1, ne)

module _ (code : Code) (s : SetupView) (once : OpenOnce code) (th : Thread) (q : ℕ) (at : act_at code th.top ≡ Some (act.Give q)) where
  -- a region of this frame that the Give may close
  abbrev Mine : OpenRegion → Bool
  Mine y = is_of code (length th.below) th.top.function q y

  abbrev At : Option Instr
  At = instr_in (slice_get code.functions th.top.function) th.top.instr

  -- those that stay are of another Take or another frame
  other_frame : (m : ℕ) (g : Frame) (r : ℕ) (y : OpenRegion) → slice_get th.below m ≡ Some g → is_of code m g.function r y ≡ true → Mine y ≡ false
  other_frame m g r y e t =
      let f : y.frame ≡ m = (let u = (both_true (y.frame == m) (takes (instr_in (slice_get code.functions g.function) y.instr) r) t).0 in grind (arith, nat_tests, u)) in
      ap (λ b. b && takes (instr_in (slice_get code.functions th.top.function) y.instr) q) (apart y.frame (length th.below) (λ z. omega (arith, z, f, slice_get_within th.below m g e)))

  other_take : (r : ℕ) (y : OpenRegion) → (r ≡ q → ⊥) → is_of code (length th.below) th.top.function r y ≡ true → Mine y ≡ false
  other_take r y ne t = by (Mine y) refl
    where
      by : (b : Bool) → Mine y ≡ b → b ≡ false
      by true e = absurd (ne (one_taken (instr_in (slice_get code.functions th.top.function) y.instr) r q (both_true (y.frame == length th.below) (takes (instr_in (slice_get code.functions th.top.function) y.instr) r) t).1 (both_true (y.frame == length th.below) (takes (instr_in (slice_get code.functions th.top.function) y.instr) q) e).1))
      by false e = refl

  -- ---- the regions that are left

  cut_keeps : (i : ℕ) (g : Giving code th q i) (ys : List (ℕ × ℕ)) → Keeps code s Mine th.regions (cut th.regions i ys)
  cut_keeps i g ys y n p j h = (y, subst (λ qs. In y qs) (sym (cut_is th.regions i g.x ys g.at)) (in_filtered has_stripes y (slice_set th.regions i (with_pairs g.x ys)) (j.0, set_other th.regions i j.0 y (with_pairs g.x ys) j.1 ne) (has_some y n h)), refl, refl, h)
    where
      ne : j.0 ≡ i → ⊥
      ne e = let z : y ≡ g.x = same_Some y g.x (sym j.1 ∙ ap (slice_get th.regions) e ∙ g.at) in let w : false ≡ true = sym p ∙ ap Mine z ∙ g.is in cc

  others_on : (rs : List OpenRegion) → Keeps code s Mine th.regions rs → HoldsBy code s th → (m : ℕ) (g : Frame) → slice_get th.below m ≡ Some g → Stands code s m g.function g.instr g.registers rs None
  others_on rs k h m g e = others_kept code s Mine th.regions rs m g k (λ r y t. other_frame m g r y e t) (h.others (ap is_exit at) m g e)

  -- the other regions stay open in the thread
  has_on : (rs : List OpenRegion) → Keeps code s Mine th.regions rs → (h : HoldsBy code s th) (x : Opening) → In x (closed_with q h.top.opened) → Has code s (length th.below) th.top.function rs x
  has_on rs k h x i = has_kept code s Mine th.regions rs (length th.below) th.top.function x k
      (λ y t. other_take x.0 y (λ e. closed_other q x h.top.opened (open_once code s once th.top.function h.top.walked q) i e) t)
      (h.top.has x (subst (λ z. In x z) (sym (ap (λ o. promised o h.top.opened) at)) i))

  -- one stripe is given
  pub give_one : (i : ℕ) (g : Giving code th q i) (ys : List (ℕ × ℕ)) → HoldsBy code s th → Holds code s th.below th.top.function th.top.instr th.top.registers (cut th.regions i ys)
  give_one i g ys h = record {
    top = record { opened = h.top.opened; walked = h.top.walked; has = λ x j. has_on (cut th.regions i ys) (cut_keeps i g ys) h x (subst (λ z. In x z) (ap (λ o. promised o h.top.opened) at) j) };
    others = λ e. others_on (cut th.regions i ys) (cut_keeps i g ys) h;
    partly = λ p u n to re w le lt. absurd (no_take p (sym at ∙ to));
  }
    where
      no_take : (p : ℕ) → Some (act.Give q) ≡ Some (act.Take p) → ⊥
      no_take p e = cc

  -- ---- the Give is over

  module _ (k : Kept code th.below th.top.function th.top.instr th.regions th.stripes) where
    -- a region of another Take is open on the way
    open_other : (r : ℕ) (x : OpenRegion) → (q ≡ r → ⊥) → In x th.regions → is_of code (length th.below) th.top.function r x ≡ true → 1 ≤ times r (closed q k.top.opened)
    open_other r x ne i t = omega (arith, some_many (is_of code (length th.below) th.top.function r) th.regions x i t, k.top.few r, none_here code (length th.below) th.top.function th.top.instr th.regions r (takes_is At (act.Give q) r at), times_other r q k.top.opened (apart q r ne))

    over : (rs : List OpenRegion) → Keeps code s Mine th.regions rs → ((r : ℕ) (x : OpenRegion) → In x rs → is_of code (length th.below) th.top.function r x ≡ true → 1 ≤ times r (closed q k.top.opened)) → HoldsBy code s th → Holds code s th.below th.top.function (th.top.instr + 1) th.top.registers rs
    over rs keep anew h = record {
      top = record {
        opened = closed_with q h.top.opened;
        walked = walk_on code s th.top.function th.top.instr th.top.registers h.top.opened (act.Give q) (th.top.instr + 1) th.top.registers h.top.walked at (refl, refl);
        has = λ x i. has_on rs keep h x (in_promised (ActAt code s th.top.function (th.top.instr + 1)) x (closed_with q h.top.opened) i);
      };
      others = λ e. others_on rs keep h;
      partly = arrives code s (length th.below) th.top.function (th.top.instr + 1) th.top.registers rs (closed q k.top.opened) once (way_on code th.top.function th.top.instr k.top.opened (act.Give q) (th.top.instr + 1) k.top.way at (0, omega arith, refl)) anew;
    }

    pub give_none : open_place code th q ≡ None → HoldsBy code s th → Holds code s th.below th.top.function (th.top.instr + 1) th.top.registers th.regions
    give_none o h = over th.regions (λ y n p i t. (y, i, refl, refl, t))
        (λ r x i t. ⊎_elim
        (λ (z : q ≡ r). absurd (no_place (is_open_of code th q) 0 th.regions x o i (ap (λ n. is_of code (length th.below) th.top.function n x) z ∙ t)))
        (λ ne. open_other r x ne i t)
        (cases_eq q r)) h

    pub give_done : (i : ℕ) → Giving code th q i → HoldsBy code s th → Holds code s th.below th.top.function (th.top.instr + 1) th.top.registers (cut th.regions i [])
    give_done i g h = over (cut th.regions i []) (cut_keeps i g []) anew h
      where
        twice : (x : OpenRegion) (j : ℕ) → slice_get th.regions j ≡ Some x → (j ≡ i → ⊥) → Mine x ≡ true → 1 ≤ times q (closed q k.top.opened)
        twice x j e ne t = omega (arith, two_many Mine th.regions i j g.x x g.at e ne g.is t, k.top.few q, none_here code (length th.below) th.top.function th.top.instr th.regions q (takes_is At (act.Give q) q at), times_closed q k.top.opened)

        anew : (r : ℕ) (x : OpenRegion) → In x (cut th.regions i []) → is_of code (length th.below) th.top.function r x ≡ true → 1 ≤ times r (closed q k.top.opened)
        anew r x c t =
            let j = cut_elsewhere th.regions i g.x x g.at c in
            ⊎_elim
            (λ (z : q ≡ r). subst (λ n. 1 ≤ times n (closed q k.top.opened)) z (twice x j.0 j.1 j.2 (ap (λ n. is_of code (length th.below) th.top.function n x) z ∙ t)))
            (λ ne. open_other r x ne (j.0, j.1) t)
            (cases_eq q r)
