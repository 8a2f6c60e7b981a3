-- The open regions of a thread are listed as they must be: each was opened by a Take in one of the frames, none is of a frame
-- below that of the one before, and the thread has the stripes of each.
use Rattle.std.proofs.Common.{◌≡◌, ℕ, zero, suc, ◌+◌, ◌<◌, ◌≤◌, ◌==◌, ◌&&◌, ◌||◌, not, Bool, true, false, List, [], ◌∷◌, ◌++◌, map, Option, Some, None, refl, sym, ap, ◌∙◌, subst, arith}
use Rattle.std.specs.Prelude.{slice_get}
use Rattle.std.specs.List.{list_all}
use Rattle.std.proofs.lemmas.Bool.{le-leb, lt-ltb, eqb-true}
use Rattle.std.proofs.lemmas.Option.{same_Some}
use Rattle.flow_code.specs.declared.act.Act.{Act}
use Rattle.flow_code.specs.declared.act.Act.TheVariants as act
use Rattle.flow_code.specs.declared.act.Instr.{Instr}
use Rattle.flow_code.specs.declared.code.Code.{Code}
use Rattle.flow_code.specs.declared.thread.Phase.{Phase}
use Rattle.flow_code.specs.declared.thread.Phase.TheVariants as phase
use Rattle.flow_code.specs.declared.thread.Stripe.{Stripe}
use Rattle.flow_code.specs.Holding.{number_of_pair, has_stripe, nesting, takes, takes_region}
use Rattle.flow_code.specs.Next.{act_in, holds, same_stripe}
use Rattle.flow_code.specs.Threads.{Frame, OpenRegion, Thread, instr_in}
use Rattle.thread_interpreter.specs.Parts.{frame_part, stripe_part, region_part, frames_in, still, part_of}
use Rattle.thread_interpreter.specs.declared.part.FramePart.{FramePart}
use Rattle.thread_interpreter.specs.declared.part.StripePart.{StripePart}
use Rattle.lock_ownership.specs.ThreadStripes.{AscendFrom, owes_stripe, HasItsStripes}
use Rattle.guard_paths.proofs.Guarded.{In}
use Rattle.guard_paths.proofs.Holdings.{Kept, functions_of, some_many}
use Rattle.guard_paths.proofs.Opened.{nesting_many, pair_has}
use Rattle.guard_paths.proofs.Threads.{KeptIn, IsEmpty}
use Rattle.snapshots.specs.Conditions.{AllFit, is_from, is_take, opens, has_pair, all_differ, is_among, region_fits, regions_judged}
use Rattle.snapshot_reached.proofs.Cells.{both}
use Rattle.snapshot_reached.proofs.Rising.{Rises}

-- ---- the Take of a region

take_of : (a : Act) (r : ℕ) → takes_region a r ≡ true → is_take (Some a) ≡ true
take_of (act.Take k) r e = refl
take_of _ r e = cc

take_is : (o : Option Instr) (r : ℕ) → takes o r ≡ true → is_take (act_in o) ≡ true
take_is None r e = cc
take_is (Some i) r e = take_of i.act r e

-- the frame of a number, as it is listed
frame_there : (below : List Frame) (top : Frame) (k g : ℕ) → slice_get (functions_of below top.function) k ≡ Some g → (p : FramePart) × (slice_get (map frame_part (below ++ top ∷ [])) k ≡ Some p) × (p.function ≡ g)
frame_there [] top zero g e = (frame_part top, refl, same_Some top.function g e)
frame_there [] top (suc k) g e = cc
frame_there (f ∷ fs) top zero g e = (frame_part f, refl, same_Some f.function g e)
frame_there (f ∷ fs) top (suc k) g e = frame_there fs top k g e

opens_at : (code : Code) (below : List Frame) (top : Frame) (x : OpenRegion) (g r : ℕ) → slice_get (functions_of below top.function) x.frame ≡ Some g → takes (instr_in (slice_get code.functions g) x.instr) r ≡ true
    → opens code (slice_get (map frame_part (below ++ top ∷ [])) x.frame) x.instr ≡ true
opens_at code below top x g r at take =
    let p = frame_there below top x.frame g at in
    ap (λ o. opens code o x.instr) p.1
    ∙ ap (λ f. is_take (act_in (instr_in (slice_get code.functions f) x.instr))) p.2
    ∙ take_is (instr_in (slice_get code.functions g) x.instr) r take

-- ---- the stripes of a region differ

apart : (p q : ℕ × ℕ) → number_of_pair p < number_of_pair q → ((q.0 == p.0) && (q.1 == p.1)) ≡ false
apart p q lt = by (q.0 == p.0) (q.1 == p.1) refl refl
  where
    by : (a b : Bool) → (q.0 == p.0) ≡ a → (q.1 == p.1) ≡ b → (a && b) ≡ false
    by true true e f =
        let lock = eqb-true q.0 p.0 e in
        let stripe = eqb-true q.1 p.1 f in
        absurd (omega (arith, lt, lock, stripe))
    by true false e f = refl
    by false b e f = refl

none_after : (p : ℕ × ℕ) (n : ℕ) (ps : List (ℕ × ℕ)) → number_of_pair p < n → AscendFrom number_of_pair (λ x. x.1) n ps → has_pair ps p ≡ false
none_after p n [] lt h = refl
none_after p n (q ∷ ps) lt h =
    let first = h.0 in
    let above : number_of_pair p < number_of_pair q = omega (arith, lt, first) in
    ap (λ b. b || has_pair ps p) (apart p q above) ∙ none_after p (number_of_pair q + 1) ps (omega (arith, above)) h.2

differ : (n : ℕ) (ps : List (ℕ × ℕ)) → AscendFrom number_of_pair (λ x. x.1) n ps → all_differ ps ≡ true
differ n [] h = refl
differ n (p ∷ ps) h =
    both (not (has_pair ps p)) (all_differ ps) (ap not (none_after p (number_of_pair p + 1) ps (omega arith) h.2)) (differ (number_of_pair p + 1) ps h.2)

pair_small : (n : ℕ) (ps : List (ℕ × ℕ)) (p : ℕ × ℕ) → AscendFrom number_of_pair (λ x. x.1) n ps → In p ps → p.1 < 8
pair_small n [] p h (k, e) = cc
pair_small n (q ∷ ps) p h (zero, e) = subst (λ (z : ℕ × ℕ). z.1 < 8) (same_Some q p e) h.1
pair_small n (q ∷ ps) p h (suc k, e) = pair_small (number_of_pair q + 1) ps p h.2 (k, e)

-- ---- the thread has them

listed_among : (rs : List OpenRegion) (lock stripe : ℕ) (xs : List Stripe) → (holds xs lock stripe || owes_stripe xs lock stripe) ≡ true → is_among (map (stripe_part rs) xs) (lock, stripe) ≡ true
listed_among rs lock stripe [] e = cc
listed_among rs lock stripe (x ∷ xs) e = by (same_stripe lock stripe x) x.owed (holds xs lock stripe) (owes_stripe xs lock stripe) e (listed_among rs lock stripe xs)
  where
    by : (a o h w : Bool) → (((a && not o) || h) || ((a && o) || w)) ≡ true → ((h || w) ≡ true → is_among (map (stripe_part rs) xs) (lock, stripe) ≡ true) → (a || is_among (map (stripe_part rs) xs) (lock, stripe)) ≡ true
    by true o h w e more = refl
    by false o h w e more = more e

all_pairs : (p : ℕ × ℕ → Bool) (ps : List (ℕ × ℕ)) → ((x : ℕ × ℕ) → In x ps → p x ≡ true) → list_all p ps ≡ true
all_pairs p [] h = refl
all_pairs p (x ∷ ps) h = both (p x) (list_all p ps) (h x (0, refl)) (all_pairs p ps (λ y i. h y (suc i.0, i.1)))

module _ (code : Code) (th : Thread) (its : HasItsStripes th) where
  among_all : (x : OpenRegion) → In x th.regions → (p : ℕ × ℕ) → In p x.stripes → is_among (map (stripe_part th.regions) th.stripes) p ≡ true
  among_all x i p j =
      let open_one = its.open_regions i.0 x i.1 in
      let small = pair_small 0 x.stripes p open_one.sorted j in
      let has : has_stripe x.stripes (number_of_pair p) ≡ true = pair_has x.stripes p (number_of_pair p) j refl in
      let some : 0 < nesting th.regions (number_of_pair p) = omega (arith, nesting_many th.regions (number_of_pair p), some_many (λ (z : OpenRegion). has_stripe z.stripes (number_of_pair p)) th.regions x i has) in
      listed_among th.regions p.0 p.1 th.stripes (its.nested p.0 p.1 small ∙ lt-ltb 0 (nesting th.regions (number_of_pair p)) some)

  from_before : (before : Option ℕ) (n m : ℕ) → ((k : ℕ) → before ≡ Some k → k ≤ n) → n ≤ m → is_from before m ≡ true
  from_before None n m low le = refl
  from_before (Some k) n m low le = let first = low k refl in le-leb k m (omega (arith, first, le))

  abbrev Frames : List FramePart
  Frames = map frame_part (th.below ++ th.top ∷ [])

  abbrev Stripes : List StripePart
  Stripes = map (stripe_part th.regions) th.stripes

  module _ (kept : Kept code th.below th.top.function th.top.instr th.regions th.stripes) where
    one : (before : Option ℕ) (n : ℕ) (x : OpenRegion) → In x th.regions → ((k : ℕ) → before ≡ Some k → k ≤ n) → n ≤ x.frame → region_fits code Frames Stripes before (region_part x) ≡ true
    one before n x i low le =
        let p = kept.placed x i in
        let open_one = its.open_regions i.0 x i.1 in
        both (opens code (slice_get Frames x.frame) x.instr) (is_from before x.frame && (all_differ x.stripes && list_all (is_among Stripes) x.stripes)) (opens_at code th.below th.top x p.0 p.1 p.2 p.3)
        (both (is_from before x.frame) (all_differ x.stripes && list_all (is_among Stripes) x.stripes) (from_before before n x.frame low le)
        (both (all_differ x.stripes) (list_all (is_among Stripes) x.stripes) (differ 0 x.stripes open_one.sorted)
        (all_pairs (is_among Stripes) x.stripes (among_all x i))))

    each : (before : Option ℕ) (n : ℕ) (xs : List OpenRegion) → ((x : OpenRegion) → In x xs → In x th.regions) → ((k : ℕ) → before ≡ Some k → k ≤ n) → Rises n xs → AllFit (regions_judged code Frames Stripes before (map region_part xs))
    each before n [] sub low h = tt
    each before n (x ∷ xs) sub low h =
        (one before n x (sub x (0, refl)) low h.0, each (Some x.frame) x.frame xs (λ y j. sub y (suc j.0, j.1)) (λ k e. (let same : x.frame ≡ k = same_Some x.frame k e in omega (arith, same))) h.1)

  -- in each phase: a thread that isn't in its first function yet has none, and one that has ended has none left
  abbrev RegionsIn : Phase → Type 0
  RegionsIn p = AllFit (regions_judged code (map frame_part (frames_in p th)) (map (stripe_part th.regions) (still p th.stripes)) None (map region_part (still p th.regions)))

  early : (fs : List FramePart) (ss : List StripePart) → IsEmpty th → AllFit (regions_judged code fs ss None (map region_part th.regions))
  early fs ss h = subst (λ rs. AllFit (regions_judged code fs ss None (map region_part rs))) (sym h.0) tt

  regions_in : (p : Phase) → KeptIn p (Kept code th.below th.top.function th.top.instr th.regions th.stripes) (IsEmpty th) → Rises 0 th.regions → RegionsIn p
  regions_in phase.Running k rises = each k None 0 th.regions (λ x i. i) (λ m e. cc) rises
  regions_in phase.Fresh k rises = early [] (map (stripe_part th.regions) th.stripes) k
  regions_in (phase.Begun f) k rises = early [] (map (stripe_part th.regions) th.stripes) k
  regions_in (phase.Loaded f w) k rises = early [] (map (stripe_part th.regions) th.stripes) k
  regions_in phase.Ended k rises = tt
  regions_in phase.Halted k rises = tt
  regions_in (phase.Trapped kind line) k rises = tt
  regions_in phase.Stopped k rises = tt
  regions_in phase.Closed k rises = tt

  pub regions_fit : KeptIn th.phase (Kept code th.below th.top.function th.top.instr th.regions th.stripes) (IsEmpty th) → Rises 0 th.regions → AllFit (regions_judged code (part_of th).frames (part_of th).stripes None (part_of th).regions)
  regions_fit k rises = regions_in th.phase k rises
