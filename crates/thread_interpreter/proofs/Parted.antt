-- The part of a thread stands for that thread.
use Rattle.std.proofs.Common.{◌≡◌, suc, ◌-◌, true, false, List, [], ◌∷◌, ◌++◌, length, map, take, refl, sym, ap, ◌∙◌, Some, arith}
use Rattle.std.specs.Prelude.{slice_get, unwrap_or}
use Rattle.std.proofs.lemmas.List.{length-append}
use Rattle.std.proofs.Math.Seq.{take-append_seam}
use Rattle.flow_code.specs.declared.thread.Phase.{Phase}
use Rattle.flow_code.specs.declared.thread.Phase.TheVariants as phase
use Rattle.flow_code.specs.declared.thread.Stripe.{Stripe}
use Rattle.flow_code.specs.Threads.{Frame, Thread, OpenRegion}
use Rattle.flow_code.specs.Next.{has_ended}
use Rattle.thread_interpreter.specs.Starts.{no_frame}
use Rattle.thread_interpreter.specs.Endings.{trap_of}
use Rattle.thread_interpreter.specs.Parts.{frame_part, stripe_part, region_part, phase_part, frames_in, still, part_of, frame_of, stripe_of, region_of, phase_of, top_in, below_in, thread_of, is_loaded, IsWord, AreWords, IsParted, IsEndedAs}

-- ---- the last of some frames

last_got : (fs : List Frame) (f : Frame) → slice_get (fs ++ f ∷ []) (length fs) ≡ Some f
last_got [] f = refl
last_got (x ∷ fs) f = last_got fs f

one_less : (fs : List Frame) (f : Frame) → length (fs ++ f ∷ []) - 1 ≡ length fs
one_less fs f = omega (arith, length-append fs (f ∷ []))

pub top_last : (fs : List Frame) (f : Frame) → top_in (fs ++ f ∷ []) ≡ f
top_last fs f = ap (λ o. unwrap_or o no_frame) (ap (slice_get (fs ++ f ∷ [])) (one_less fs f) ∙ last_got fs f)

pub below_last : (fs : List Frame) (f : Frame) → below_in (fs ++ f ∷ []) ≡ fs
below_last fs f = ap (λ n. take n (fs ++ f ∷ [])) (one_less fs f) ∙ take-append_seam fs (f ∷ [])

-- ---- each piece there and back

frame_back : (f : Frame) → IsWord f → frame_of (frame_part f) ≡ f
frame_back f h = ap (λ z. record f { kept = z }) h

frames_back : (fs : List Frame) → AreWords fs → map frame_of (map frame_part fs) ≡ fs
frames_back [] h = refl
frames_back (f ∷ fs) h = ap (λ x. x ∷ map frame_of (map frame_part fs)) (frame_back f (h.each 0 f refl)) ∙ ap (λ xs. f ∷ xs) (frames_back fs (record { each = λ k x e. h.each (suc k) x e }))

stripes_back : (rs : List OpenRegion) (xs : List Stripe) → map stripe_of (map (stripe_part rs) xs) ≡ xs
stripes_back rs [] = refl
stripes_back rs (x ∷ xs) = ap (λ ys. x ∷ ys) (stripes_back rs xs)

regions_back : (rs : List OpenRegion) → map region_of (map region_part rs) ≡ rs
regions_back [] = refl
regions_back (r ∷ rs) = ap (λ ys. r ∷ ys) (regions_back rs)

-- no frames keep anything
pub no_words : AreWords []
no_words = record { each = λ k f e. cc }

-- ---- the whole thread

-- a thread of these pieces
abbrev with_pieces : Thread → Phase → Frame → List Frame → List Stripe → List OpenRegion → Thread
with_pieces th p top below stripes regions = record { count = th.count; arena = th.arena; entries = th.entries; revokes = th.revokes; printed = th.printed; phase = p; top = top; below = below; stripes = stripes; regions = regions }

pieces_same : (th : Thread) (p : Phase) (top : Frame) (below : List Frame) (stripes : List Stripe) (regions : List OpenRegion) → p ≡ th.phase → top ≡ th.top → below ≡ th.below → stripes ≡ th.stripes → regions ≡ th.regions → with_pieces th p top below stripes regions ≡ th
pieces_same th p top below stripes regions ep et eb es er =
    ap (λ x. with_pieces th x top below stripes regions) ep
    ∙ ap (λ x. with_pieces th th.phase x below stripes regions) et
    ∙ ap (λ x. with_pieces th th.phase th.top x stripes regions) eb
    ∙ ap (λ x. with_pieces th th.phase th.top th.below x regions) es
    ∙ ap (λ x. with_pieces th th.phase th.top th.below th.stripes x) er

-- the frames there and back, the thread being in this phase
frames_of_thread : (p : Phase) (th : Thread) → Type 0
frames_of_thread p th = (top_in (map frame_of (map frame_part (frames_in p th))) ≡ th.top) × (below_in (map frame_of (map frame_part (frames_in p th))) ≡ th.below)

frames_held : (p : Phase) (th : Thread) → AreWords (frames_in p th) → (frames_in p th ≡ [] → th.top ≡ no_frame) → (frames_in p th ≡ [] → th.below ≡ []) → frames_of_thread p th
unfolding frames_of_thread
frames_held phase.Fresh th all top none = (sym (top refl), sym (none refl))
frames_held (phase.Begun f) th all top none = (sym (top refl), sym (none refl))
frames_held (phase.Loaded f w) th all top none = (sym (top refl), sym (none refl))
frames_held phase.Running th all top none =
    let e = frames_back (th.below ++ th.top ∷ []) all in
    (ap top_in e ∙ top_last th.below th.top, ap below_in e ∙ below_last th.below th.top)
frames_held phase.Ended th all top none = (sym (top refl), sym (none refl))
frames_held phase.Halted th all top none = (sym (top refl), sym (none refl))
frames_held (phase.Trapped k l) th all top none = (sym (top refl), sym (none refl))
frames_held phase.Stopped th all top none = (sym (top refl), sym (none refl))
frames_held phase.Closed th all top none = (sym (top refl), sym (none refl))

phase_back : (p : Phase) → has_ended p ≡ false → is_loaded p ≡ false → phase_of (phase_part p) ≡ p
phase_back phase.Fresh h l = refl
phase_back (phase.Begun f) h l = refl
phase_back (phase.Loaded f w) h l = cc
phase_back phase.Running h l = refl
phase_back phase.Ended h l = cc
phase_back phase.Halted h l = cc
phase_back (phase.Trapped k n) h l = cc
phase_back phase.Stopped h l = cc
phase_back phase.Closed h l = cc

still_all : {A : Type 0} → (p : Phase) (xs : List A) → has_ended p ≡ false → still p xs ≡ xs
still_all p xs h = rw h refl

none_left : {A : Type 0} → (p : Phase) (xs : List A) → has_ended p ≡ true → still p xs ≡ []
none_left p xs h = rw h refl

pub parted : (th : Thread) → IsParted th → thread_of (part_of th) ≡ th
unfolding frames_of_thread
parted th h =
    let fs = frames_held th.phase th h.words h.no_top h.none_below in
    pieces_same th _ _ _ _ _
    (phase_back th.phase h.lives h.entered) fs.0 fs.1
    (ap (λ xs. map stripe_of (map (stripe_part th.regions) xs)) (still_all th.phase th.stripes h.lives) ∙ stripes_back th.regions th.stripes)
    (ap (λ xs. map region_of (map region_part xs)) (still_all th.phase th.regions h.lives) ∙ regions_back th.regions)

-- ---- a thread that has ended

ended_back : (p : Phase) → has_ended p ≡ true → has_ended (phase_of (phase_part p)) ≡ true
ended_back phase.Fresh h = h
ended_back (phase.Begun f) h = h
ended_back (phase.Loaded f w) h = h
ended_back phase.Running h = h
ended_back phase.Ended h = refl
ended_back phase.Halted h = refl
ended_back (phase.Trapped k n) h = refl
ended_back phase.Stopped h = refl
ended_back phase.Closed h = refl

trap_back : (p : Phase) → trap_of (phase_of (phase_part p)) ≡ trap_of p
trap_back phase.Fresh = refl
trap_back (phase.Begun f) = refl
trap_back (phase.Loaded f w) = refl
trap_back phase.Running = refl
trap_back phase.Ended = refl
trap_back phase.Halted = refl
trap_back (phase.Trapped k n) = refl
trap_back phase.Stopped = refl
trap_back phase.Closed = refl

no_frames : (p : Phase) (th : Thread) → has_ended p ≡ true → frames_in p th ≡ []
no_frames phase.Fresh th h = refl
no_frames (phase.Begun f) th h = refl
no_frames (phase.Loaded f w) th h = refl
no_frames phase.Running th h = cc
no_frames phase.Ended th h = refl
no_frames phase.Halted th h = refl
no_frames (phase.Trapped k n) th h = refl
no_frames phase.Stopped th h = refl
no_frames phase.Closed th h = refl

pub ended_parted : (th : Thread) → has_ended th.phase ≡ true → IsEndedAs th (thread_of (part_of th))
ended_parted th h = record {
  ended = ended_back th.phase h;
  trap = trap_back th.phase;
  count = refl;
  arena = refl;
  entries = refl;
  revokes = refl;
  printed = refl;
  top = ap (λ fs. top_in (map frame_of (map frame_part fs))) (no_frames th.phase th h);
  below = ap (λ fs. below_in (map frame_of (map frame_part fs))) (no_frames th.phase th h);
  stripes = ap (λ xs. map stripe_of (map (stripe_part th.regions) xs)) (none_left th.phase th.stripes h);
  regions = ap (λ xs. map region_of (map region_part xs)) (none_left th.phase th.regions h);
}
