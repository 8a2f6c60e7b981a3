-- One more frame or stripe is judged, and fits.
use Rattle.std.proofs.Common.{◌≡◌, ℕ, ◌+◌, ◌-◌, ◌*◌, ◌≤◌, min, Bool, true, false, List, [], ◌∷◌, length, take, drop, Option, Some, sym, ap, subst, ◌∙◌, arith}
use Rattle.std.proofs.Math.ListN.{get_or}
use Rattle.std.proofs.lemmas.List.{take_rest}
use Rattle.sync_objects.specs.Setup.{SetupView}
use Rattle.flow_code.specs.declared.code.Code.{Code}
use Rattle.snapshots.specs.Conditions.{frame_fits, frames_judged, stripe_fits, stripes_judged}
use Rattle.snapshot_reader.specs.Misfits.{Judging, Misfits}
use Rattle.snapshot_reader.proofs.Judging.{judging_misfit, judging_next}
use Rattle.thread_interpreter.specs.declared.part.FramePart.{FramePart}
use Rattle.thread_interpreter.specs.declared.part.RegionPart.{RegionPart}
use Rattle.thread_interpreter.specs.declared.part.StripePart.{StripePart}

pub next_frame : (code : Code) (s : SetupView) (all : List Bool) (before : Option FramePart) (rest : List FramePart) (f : FramePart) (at line next : ℕ) (b : Bool)
    → 1 ≤ length rest → f ≡ get_or rest 0 f → Judging all (frames_judged code s before rest) at line
    → b ≡ frame_fits code s before f → b ≡ true → next ≡ min (line + 1) 4294967295
    → Judging all (frames_judged code s (Some f) (take (length rest - 1) (drop 1 rest))) at next
next_frame code s all before [] f at line next b some is j fits here step = absurd (let h : 1 ≤ 0 = some in omega arith)
next_frame code s all before (frame ∷ more) f at line next b some is j fits here step =
    subst (λ (left : List FramePart). Judging all (frames_judged code s (Some f) left) at next) (sym (take_rest (frame ∷ more) 1))
    (subst (λ (g : FramePart). Judging all (frames_judged code s (Some g) more) at next) (sym is)
    (judging_next all (frames_judged code s (Some frame) more) (frame_fits code s before frame) at line next j (ap (frame_fits code s before) (sym is) ∙ sym fits ∙ here) step))

pub next_stripe : (code : Code) (s : SetupView) (regions : List RegionPart) (all : List Bool) (before : Option ℕ) (rest : List StripePart) (d : StripePart) (at line next n : ℕ) (b : Bool)
    → 1 ≤ length rest → Judging all (stripes_judged code s regions before rest) at line
    → b ≡ stripe_fits code s regions before (get_or rest 0 d) → b ≡ true → n ≡ 8 * (get_or rest 0 d).lock + (get_or rest 0 d).stripe → next ≡ min (line + 1) 4294967295
    → Judging all (stripes_judged code s regions (Some n) (take (length rest - 1) (drop 1 rest))) at next
next_stripe code s regions all before [] d at line next n b some j fits here place step = absurd (let h : 1 ≤ 0 = some in omega arith)
next_stripe code s regions all before (y ∷ more) d at line next n b some j fits here place step =
    subst (λ (left : List StripePart). Judging all (stripes_judged code s regions (Some n) left) at next) (sym (take_rest (y ∷ more) 1))
    (subst (λ (m : ℕ). Judging all (stripes_judged code s regions (Some m) more) at next) (sym place)
    (judging_next all (stripes_judged code s regions (Some (8 * y.lock + y.stripe)) more) (stripe_fits code s regions before y) at line next j (sym fits ∙ here) step))

-- a stripe doesn't fit
pub stripe_misfit : (code : Code) (s : SetupView) (regions : List RegionPart) (all : List Bool) (before : Option ℕ) (rest : List StripePart) (d : StripePart) (at line : ℕ) (b : Bool)
    → 1 ≤ length rest → Judging all (stripes_judged code s regions before rest) at line
    → b ≡ stripe_fits code s regions before (get_or rest 0 d) → b ≡ false → Misfits all at (Some line)
stripe_misfit code s regions all before [] d at line b some j fits unfit = absurd (let h : 1 ≤ 0 = some in omega arith)
stripe_misfit code s regions all before (y ∷ more) d at line b some j fits unfit =
    judging_misfit all (stripes_judged code s regions (Some (8 * y.lock + y.stripe)) more) (stripe_fits code s regions before y) at line j (sym fits ∙ unfit)
