-- The frames of a thread's open regions don't fall from one region to the next.
use Rattle.std.proofs.Common.{◌≡◌, ℕ, zero, suc, ◌+◌, ◌-◌, ◌*◌, ◌≤◌, Bool, true, false, if◌then◌else◌, List, [], ◌∷◌, ◌++◌, length, map, filter, Option, Some, None, refl, sym, ap, ◌∙◌, subst, arith}
use Rattle.std.specs.Prelude.{slice_get, slice_set}
use Rattle.std.proofs.lemmas.Option.{same_Some, slice_get_within}
use Rattle.sync_objects.specs.Setup.{SetupView}
use Rattle.flow_code.specs.declared.code.Code.{Code}
use Rattle.flow_code.specs.declared.thread.Phase.TheVariants as phase
use Rattle.flow_code.specs.Holding.{has_stripes, open_ones, with_pairs, is_opened_here, latest, latest_with, opened, taken_before, region_with, cut, left_by, pairs_at, left_of, is_listed, number_of_pair}
use Rattle.flow_code.specs.Next.{stepped}
use Rattle.flow_code.specs.Stripes.{end_lock}
use Rattle.flow_code.specs.Threads.{Frame, Thread, OpenRegion}
use Rattle.guard_paths.specs.Reached.{Reached, starts, steps, loses, stops, shuts}
use Rattle.guard_paths.proofs.Guarded.{In}
use Rattle.guard_paths.proofs.Holdings.{GiveAll, Kept, functions_of, length_map, length_more}
use Rattle.guard_paths.proofs.Threads.{KeptIn, IsEmpty, reached_kept}
use Rattle.snapshot_reached.proofs.Changes.{Changes, none, takes, gives, keeps, marks, changes}

-- ---- lists of open regions

-- each region's frame is at least that of the one before, from this one on
abbrev pub Rises : ℕ → List OpenRegion → Type 0
Rises n [] = Unit {0}
Rises n (r ∷ rs) = (n ≤ r.frame) × Rises r.frame rs

from : (n m : ℕ) (rs : List OpenRegion) → n ≤ m → Rises m rs → Rises n rs
from n m [] le h = tt
from n m (r ∷ rs) le h = let first = h.0 in (omega (arith, le, first), h.1)

kept_ones : (p : OpenRegion → Bool) (n : ℕ) (rs : List OpenRegion) → Rises n rs → Rises n (filter p rs)
kept_ones p n [] h = tt
kept_ones p n (r ∷ rs) h = by (p r) (kept_ones p r.frame rs h.1)
  where
    by : (b : Bool) → Rises r.frame (filter p rs) → Rises n (if b then r ∷ filter p rs else filter p rs)
    by true more = (h.0, more)
    by false more = from n r.frame (filter p rs) h.0 more

-- other stripes change no frame
set : (n : ℕ) (rs : List OpenRegion) (i : ℕ) (r q : OpenRegion) → slice_get rs i ≡ Some r → q.frame ≡ r.frame → Rises n rs → Rises n (slice_set rs i q)
set n [] i r q at e h = tt
set n (x ∷ xs) zero r q at e h =
    let same : x.frame ≡ q.frame = ap (λ (z : OpenRegion). z.frame) (same_Some x r at) ∙ sym e in
    (subst (λ k. n ≤ k) same h.0, subst (λ k. Rises k xs) same h.1)
set n (x ∷ xs) (suc i) r q at e h = (h.0, set x.frame xs i r q at e h.1)

each_with : (f : OpenRegion → List (ℕ × ℕ)) (n : ℕ) (rs : List OpenRegion) → Rises n rs → Rises n (map (λ r. with_pairs r (f r)) rs)
each_with f n [] h = tt
each_with f n (r ∷ rs) h = (h.0, each_with f r.frame rs h.1)

-- one more at the end, in no lower frame than all others
added : (n : ℕ) (rs : List OpenRegion) (q : OpenRegion) → n ≤ q.frame → ((x : OpenRegion) → In x rs → x.frame ≤ q.frame) → Rises n rs → Rises n (rs ++ q ∷ [])
added n [] q le all h = (le, tt)
added n (r ∷ rs) q le all h = (h.0, added r.frame rs q (all r (0, refl)) (λ x i. all x (suc i.0, i.1)) h.1)

added_if : (n : ℕ) (rs : List OpenRegion) (q : OpenRegion) → n ≤ q.frame → ((x : OpenRegion) → In x rs → x.frame ≤ q.frame) → Rises n rs → Rises n (rs ++ open_ones (q ∷ []))
added_if n rs q le all h = by (has_stripes q)
  where
    unchanged : (n : ℕ) (rs : List OpenRegion) → Rises n rs → Rises n (rs ++ [])
    unchanged n [] h = tt
    unchanged n (r ∷ rs) h = (h.0, unchanged r.frame rs h.1)

    by : (b : Bool) → Rises n (rs ++ (if b then q ∷ [] else []))
    by true = added n rs q le all h
    by false = unchanged n rs h

-- ---- Take and Give

-- no region is of a frame above the running one
abbrev pub IsInside : Thread → Type 0
IsInside th = (x : OpenRegion) → In x th.regions → x.frame ≤ length th.below

taking : (th : Thread) (xs : List (ℕ × ℕ)) → IsInside th → Rises 0 th.regions → Rises 0 (opened th xs)
taking th xs inside h = by (is_opened_here th (latest th)) (latest th) refl
  where
    with_latest : (o : Option OpenRegion) → latest th ≡ o → Rises 0 (latest_with o xs th.regions)
    with_latest None e = h
    with_latest (Some r) e = set 0 th.regions (length th.regions - 1) r (with_pairs r xs) e refl h

    by : (b : Bool) (o : Option OpenRegion) → latest th ≡ o → Rises 0 (if b then latest_with o xs th.regions else th.regions ++ open_ones (record { frame = length th.below; instr = th.top.instr; stripes = xs } ∷ []))
    by true o e = with_latest o e
    by false o e = added_if 0 th.regions (record { frame = length th.below; instr = th.top.instr; stripes = xs }) (omega arith) inside h

cutting : (rs : List OpenRegion) (i : ℕ) (xs : List (ℕ × ℕ)) → Rises 0 rs → Rises 0 (cut rs i xs)
cutting rs i xs h = kept_ones has_stripes 0 (region_with (slice_get rs i) xs rs i) (by (slice_get rs i) refl)
  where
    by : (o : Option OpenRegion) → slice_get rs i ≡ o → Rises 0 (region_with o xs rs i)
    by None e = h
    by (Some r) e = set 0 rs i r (with_pairs r xs) e refl h

-- ---- each state of a thread

module _ (code : Code) (s : SetupView) (t : ℕ) where
  rises_on : (th q : Thread) → Changes code th q → (th.phase ≡ phase.Running → IsInside th) → Rises 0 th.regions → Rises 0 q.regions
  rises_on th q (none h) inside k = subst (Rises 0) (sym h.regions) k
  rises_on th q (takes r None runs e h) inside k = subst (Rises 0) (sym h.regions) (taking th (taken_before code th r (8 * end_lock code r)) (inside runs) k)
  rises_on th q (takes r (Some n) runs e h) inside k = subst (Rises 0) (sym h.regions) (taking th (taken_before code th r (n + 1)) (inside runs) k)
  rises_on th q (gives i next h) inside k = subst (Rises 0) (sym h.regions) (cutting th.regions i (left_by next (pairs_at (slice_get th.regions i))) k)
  rises_on th q (keeps h) inside k =
      subst (Rises 0) (sym h.regions)
      (kept_ones has_stripes 0 (map (λ r. with_pairs r (filter (λ x. is_listed (left_of th.stripes) (number_of_pair x)) r.stripes)) th.regions)
      (each_with (λ r. filter (λ x. is_listed (left_of th.stripes) (number_of_pair x)) r.stripes) 0 th.regions k))
  rises_on th q (marks owed place h) inside k = subst (Rises 0) (sym h.regions) k

  module _ (all : GiveAll code) where
    pub placed_kept : (th : Thread) → Reached code s t th → th.phase ≡ phase.Running → Kept code th.below th.top.function th.top.instr th.regions th.stripes
    placed_kept th r e = subst (λ p. KeptIn p (Kept code th.below th.top.function th.top.instr th.regions th.stripes) (IsEmpty th)) e (reached_kept code s t all {th = th} r)

    inside_frames : (th : Thread) → Reached code s t th → th.phase ≡ phase.Running → IsInside th
    inside_frames th r e x i =
        let p = (placed_kept th r e).placed x i in
        let within = slice_get_within (functions_of th.below th.top.function) x.frame p.0 p.2 in
        let more = length_more (map (λ (g : Frame). g.function) th.below) th.top.function in
        let many = length_map (λ (g : Frame). g.function) th.below in
        omega (arith, within, more, many)

    pub rising : {th : Thread} → Reached code s t th → Rises 0 th.regions
    rising (starts {th} early e f) = subst (Rises 0) (sym f) tt
    rising (steps {th} answer r) = rises_on th (stepped code s t th answer) (changes code s t th answer) (inside_frames th r) (rising r)
    rising (loses lock stripe r) = rising r
    rising (stops r) = rising r
    rising (shuts r) = rising r
