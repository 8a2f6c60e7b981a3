-- What a thread keeps of the regions that are open on the ways of its frames.
use Rattle.std.proofs.Common.{◌≡◌, ℕ, ◌-◌, ◌*◌, ◌<◌, ◌≤◌, ◌&&◌, Bool, true, false, List, [], length, refl, sym, ap, ◌∙◌, subst, arith, Option, Some, None}
use Rattle.std.specs.Prelude.{slice_get, if◌then◌else◌, ◌==◌}
use Rattle.std.proofs.lemmas.Bool.Decides.{nat_tests}
use Rattle.sync_objects.specs.Setup.{SetupView}
use Rattle.word_semantics.specs.declared.library_call.LibraryCall.{LibraryCall}
use Rattle.word_semantics.specs.declared.library_call.LibraryCall.TheVariants as call
use Rattle.flow_code.specs.declared.act.Act.{Act}
use Rattle.flow_code.specs.declared.act.Act.TheVariants as act
use Rattle.flow_code.specs.declared.act.Instr.{Instr}
use Rattle.flow_code.specs.declared.code.Code.{Code}
use Rattle.flow_code.specs.declared.region.Region.{Region}
use Rattle.flow_code.specs.declared.thread.Stripe.{Stripe}
use Rattle.flow_code.specs.Holding.{has_stripe, after_pairs, is_opened_here, pairs_at, taken_pairs, region_in, takes}
use Rattle.flow_code.specs.Next.{act_in}
use Rattle.flow_code.specs.Stripes.{wants_number, first_lock, wanted}
use Rattle.flow_code.specs.Threads.{Frame, Thread, OpenRegion, instr_in}
use Rattle.loop_bounds.specs.Turns.{Goes}
use Rattle.guard_paths.specs.Walked.{Opening, closed_with, opened_with}
use Rattle.guard_paths.specs.Ways.{opened_by, Way}
use Rattle.guard_paths.proofs.Guarded.{In}
use Rattle.guard_paths.proofs.Standing.{times}
use Rattle.guard_paths.proofs.Holdings.{is_of, last_here, Kept, is_still, not_taking, none_here, takes_is, way_on, some_many}
use Rattle.guard_paths.proofs.Walks.{goes_next, of_closed}
use Rattle.open_regions.specs.OpenStripes.{is_exit, setting_of}
use Rattle.open_regions.proofs.Walking.{OpenOnce, Is, ActAt, Walks, walk_on}

-- the open regions that are kept at an instruction: at a Give not the one that is given, and none where the thread exits
abbrev pub promised : Option Act → List Opening → List Opening
promised (Some (act.Give r)) os = closed_with r os
promised (Some (act.Library call.Exit arguments into)) os = []
promised _ os = os

-- the stripes that the Take at place w of the n-th frame has taken so far
abbrev pub taken_at : (n w : ℕ) → List OpenRegion → List (ℕ × ℕ)
taken_at n w rs = if last_here n w (slice_get rs (length rs - 1)) then pairs_at (slice_get rs (length rs - 1)) else []

pub taken_same : (th : Thread) → taken_pairs th ≡ taken_at (length th.below) th.top.instr th.regions
taken_same th = by (slice_get th.regions (length th.regions - 1))
  where
    by : (o : Option OpenRegion) → (if is_opened_here th o then pairs_at o else []) ≡ (if last_here (length th.below) th.top.instr o then pairs_at o else [])
    by None = refl
    by (Some x) = refl

pub none_taken : (n w : ℕ) (rs : List OpenRegion) → last_here n w (slice_get rs (length rs - 1)) ≡ false → taken_at n w rs ≡ []
none_taken n w rs e = ap (λ b. if b then pairs_at (slice_get rs (length rs - 1)) else []) e

-- ---- acts

pub promised_library : (c : LibraryCall) (arguments : List ℕ) (into : Option ℕ) (os : List Opening) → is_exit (Some (act.Library c arguments into)) ≡ false → promised (Some (act.Library c arguments into)) os ≡ os
promised_library call.Exit arguments into os e = cc
promised_library _ arguments into os e = refl

pub still_promised : (a : Act) (os : List Opening) → is_still a ≡ true → is_exit (Some a) ≡ false → promised (Some a) os ≡ os
still_promised (act.Give r) os q e = cc
still_promised (act.Library c arguments into) os q e = promised_library c arguments into os e
still_promised _ os q e = refl

pub exit_promised : (o : Option Act) (os : List Opening) → is_exit o ≡ true → promised o os ≡ []
exit_promised (Some (act.Library call.Exit arguments into)) os e = refl
exit_promised _ os e = cc

act_promises : (a : Act) (x : Opening) (os : List Opening) (b : Bool) → is_exit (Some a) ≡ b → In x (promised (Some a) os) → In x os
act_promises (act.Give r) x os b e i = of_closed x r os i
act_promises (act.Library c arguments into) x os true e i = absurd (none (subst (λ z. In x z) (exit_promised (Some (act.Library c arguments into)) os e) i))
  where
    none : In x [] → ⊥
    none (k, h) = cc
act_promises (act.Library c arguments into) x os false e i = subst (λ z. In x z) (promised_library c arguments into os e) i
act_promises _ x os b e i = i

pub in_promised : (o : Option Act) (x : Opening) (os : List Opening) → In x (promised o os) → In x os
in_promised None x os i = i
in_promised (Some a) x os i = act_promises a x os (is_exit (Some a)) refl i

still_opens : (a : Act) (os : List ℕ) → is_still a ≡ true → opened_by a os ≡ os
still_opens (act.Take r) os h = cc
still_opens (act.Give r) os h = cc
still_opens _ os h = refl

still_openings : (a : Act) (rs : List ℕ) (os : List Opening) → is_still a ≡ true → opened_with (Some a) rs os ≡ os
still_openings (act.Take r) rs os h = cc
still_openings (act.Give r) rs os h = cc
still_openings _ rs os h = refl

-- ---- open regions

pub both_true : (a b : Bool) → (a && b) ≡ true → (a ≡ true) × (b ≡ true)
both_true true b h = (refl, h)
both_true false b h = cc

pub two_true : (a b : Bool) → a ≡ true → b ≡ true → (a && b) ≡ true
two_true true b h k = k
two_true false b h k = cc

pub same_self : (n : ℕ) → (n == n) ≡ true
same_self n = grind (arith, nat_tests)

pub takes_at : (o : Option Instr) (q : ℕ) → act_in o ≡ Some (act.Take q) → takes o q ≡ true
takes_at o q e = takes_is o (act.Take q) q e ∙ same_self q

module _ (code : Code) (s : SetupView) where
  -- the region is open in the thread: each stripe that it wants is in one that a Take of it opened in the m-th frame
  abbrev pub Has : (m f : ℕ) → List OpenRegion → Opening → Type 0
  Has m f rs x = (r : Region) (n : ℕ) → region_in (slice_get code.functions f) x.0 ≡ Some r → has_stripe (wanted code x.1 r) n ≡ true → (y : OpenRegion) × In y rs × (is_of code m f x.0 y ≡ true) × (has_stripe y.stripes n ≡ true)

  -- a frame stands on a way on which these regions are open, and those that are kept there are open in the thread
  pub record Stands (m f w : ℕ) (registers : List ℕ) (rs : List OpenRegion) (now : Option Act) : Type 0 where
    pub opened : List Opening
    pub walked : Walks code s f w registers opened
    pub has : (x : Opening) → In x (promised now opened) → Has m f rs x

  -- a Take has taken all that its region wants as far as it has come
  abbrev pub Partly : (n f w : ℕ) → List ℕ → List OpenRegion → Type 0
  Partly n f w registers rs = (q : ℕ) (r : Region) (i : ℕ) → ActAt code s f w ≡ Some (act.Take q) → region_in (slice_get code.functions f) q ≡ Some r → wants_number code registers r i ≡ true → 8 * first_lock r ≤ i → i < after_pairs (taken_at n w rs) → has_stripe (taken_at n w rs) i ≡ true

  -- what a running thread keeps; where it exits, nothing is kept for the frames below
  pub record Holds (below : List Frame) (f w : ℕ) (registers : List ℕ) (rs : List OpenRegion) : Type 0 where
    pub top : Stands (length below) f w registers rs (ActAt code s f w)
    pub others : is_exit (ActAt code s f w) ≡ false → (m : ℕ) (g : Frame) → slice_get below m ≡ Some g → Stands m g.function g.instr g.registers rs None
    pub partly : Partly (length below) f w registers rs

  abbrev pub HoldsBy : Thread → Type 0
  HoldsBy th = Holds th.below th.top.function th.top.instr th.top.registers th.regions

  -- ---- other open regions

  -- the regions that pass no test keep their frames, Takes and stripes
  abbrev pub Keeps : (OpenRegion → Bool) → (rs qs : List OpenRegion) → Type 0
  Keeps p rs qs = (y : OpenRegion) (n : ℕ) → p y ≡ false → In y rs → has_stripe y.stripes n ≡ true → (z : OpenRegion) × In z qs × (z.frame ≡ y.frame) × (z.instr ≡ y.instr) × (has_stripe z.stripes n ≡ true)

  pub is_same : (m f r : ℕ) (y z : OpenRegion) → z.frame ≡ y.frame → z.instr ≡ y.instr → is_of code m f r z ≡ is_of code m f r y
  is_same m f r y z a b = ap (λ k. (k == m) && takes (instr_in (slice_get code.functions f) z.instr) r) a ∙ ap (λ k. (y.frame == m) && takes (instr_in (slice_get code.functions f) k) r) b

  pub has_kept : (p : OpenRegion → Bool) (rs qs : List OpenRegion) (m f : ℕ) (x : Opening) → Keeps p rs qs → ((y : OpenRegion) → is_of code m f x.0 y ≡ true → p y ≡ false) → Has m f rs x → Has m f qs x
  has_kept p rs qs m f x k apart h r n e w =
      let y = h r n e w in
      let z = k y.0 n (apart y.0 y.2) y.1 y.3 in
      (z.0, z.1, is_same m f x.0 y.0 z.0 z.2 z.3 ∙ y.2, z.4)

  pub others_kept : (p : OpenRegion → Bool) (rs qs : List OpenRegion) (m : ℕ) (g : Frame) → Keeps p rs qs → ((r : ℕ) (y : OpenRegion) → is_of code m g.function r y ≡ true → p y ≡ false) → Stands m g.function g.instr g.registers rs None → Stands m g.function g.instr g.registers qs None
  others_kept p rs qs m g k apart h = record { opened = h.opened; walked = h.walked; has = λ x i. has_kept p rs qs m g.function x k (λ y t. apart x.0 y t) (h.has x i) }

  -- ---- a frame that comes to an instruction

  -- a Take to which a frame comes anew has taken nothing
  pub arrives : (n f w : ℕ) (registers : List ℕ) (rs : List OpenRegion) (os : List ℕ) → OpenOnce code → Way (Is code s f) w os → ((q : ℕ) (x : OpenRegion) → In x rs → is_of code n f q x ≡ true → 1 ≤ times q os) → Partly n f w registers rs
  arrives n f w registers rs os once way h q r i at re wants le lt = by (slice_get rs (length rs - 1)) refl (last_here n w (slice_get rs (length rs - 1))) refl
    where
      opened_here : (x : OpenRegion) → slice_get rs (length rs - 1) ≡ Some x → last_here n w (Some x) ≡ true → ⊥
      opened_here x e t =
          let u = both_true (x.frame == n) (x.instr == w) t in
          let v : x.instr ≡ w = (let y = u.1 in grind (arith, nat_tests, y)) in
          once f w os q way at (h q x (length rs - 1, e) (two_true (x.frame == n) (takes (instr_in (slice_get code.functions f) x.instr) q) u.0 (ap (λ k. takes (instr_in (slice_get code.functions f) k) q) v ∙ takes_at (instr_in (slice_get code.functions f) w) q at)))

      by : (o : Option OpenRegion) → slice_get rs (length rs - 1) ≡ o → (b : Bool) → last_here n w (slice_get rs (length rs - 1)) ≡ b → has_stripe (taken_at n w rs) i ≡ true
      by o e false t = absurd (omega (arith, lt, ap after_pairs (none_taken n w rs t)))
      by None e true t = let z : last_here n w None ≡ true = ap (last_here n w) (sym e) ∙ t in cc
      by (Some x) e true t = absurd (opened_here x e (ap (last_here n w) (sym e) ∙ t))

  -- an act that neither takes nor gives
  pub moved_on : OpenOnce code → (below : List Frame) (f w : ℕ) (registers : List ℕ) (rs : List OpenRegion) (ss : List Stripe) (a : Act) (v : ℕ) (qs : List ℕ) → ActAt code s f w ≡ Some a → is_still a ≡ true → is_exit (Some a) ≡ false → Goes (setting_of code s f) (Some a) w registers v qs → Kept code below f w rs ss → Holds below f w registers rs → Holds below f v qs rs
  moved_on once below f w registers rs ss a v qs at q e g k h = record {
    top = record {
      opened = h.top.opened;
      walked = subst (Walks code s f v qs) (still_openings a registers h.top.opened q) (walk_on code s f w registers h.top.opened a v qs h.top.walked at g);
      has = λ x i. h.top.has x (subst (λ z. In x z) (sym (ap (λ o. promised o h.top.opened) at ∙ still_promised a h.top.opened q e)) (in_promised (ActAt code s f v) x h.top.opened i));
    };
    others = λ n. h.others (ap is_exit at ∙ e);
    partly = arrives (length below) f v qs rs k.top.opened once (subst (Way (Is code s f) v) (still_opens a k.top.opened q) (way_on code f w k.top.opened a v k.top.way at (goes_next (setting_of code s f) a w v registers qs g)))
        (λ r x i t. omega (arith, some_many (is_of code (length below) f r) rs x i t, k.top.few r, none_here code (length below) f w rs r (takes_is (instr_in (slice_get code.functions f) w) a r at ∙ not_taking a r q)));
  }
