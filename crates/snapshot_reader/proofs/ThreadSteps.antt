-- One more thread is judged.
use Rattle.std.proofs.Common.{◌≡◌, ℕ, ◌+◌, ◌-◌, ◌≤◌, Bool, List, [], ◌∷◌, length, take, drop, Some, None, refl, sym, ap, subst, ◌∙◌, arith}
use Rattle.std.proofs.Math.ListN.{get_or}
use Rattle.std.proofs.lemmas.List.{take_rest}
use Rattle.order_log.specs.Reading.{shown}
use Rattle.sync_objects.specs.Setup.{SetupView}
use Rattle.flow_code.specs.declared.code.Code.{Code}
use Rattle.snapshots.specs.Conditions.{thread_judged, threads_judged}
use Rattle.snapshots.specs.declared.draft.DraftThread.{DraftThread}
use Rattle.snapshot_reader.specs.Misfits.{Judging, Misfits}
use Rattle.snapshot_reader.specs.Reading.{AreFew}
use Rattle.snapshot_reader.proofs.Counts.{thread_count}
use Rattle.snapshot_reader.proofs.Judging.{judging_part, judging_part_misfit}

-- it fits
pub next_thread : (code : Code) (s : SetupView) (all : List Bool) (t : ℕ) (rest : List DraftThread) (d : DraftThread) (at line next : ℕ)
    → 1 ≤ length rest → d ≡ get_or rest 0 d → Judging all (threads_judged code s t rest) at line
    → Misfits (thread_judged code s t d) line None → next ≡ shown (line + (1 + (length d.frames + (length d.stripes + length d.regions))))
    → Judging all (threads_judged code s (t + 1) (take (length rest - 1) (drop 1 rest))) at next
next_thread code s all t [] d at line next some is j fits step = absurd (let h : 1 ≤ 0 = some in omega arith)
next_thread code s all t (x ∷ more) d at line next some is j fits step =
    let fits_it = subst (λ (y : DraftThread). Misfits (thread_judged code s t y) line None) is fits in
    let steps : next ≡ shown (line + length (thread_judged code s t x)) = step ∙ ap (λ (y : DraftThread). shown (line + (1 + (length y.frames + (length y.stripes + length y.regions))))) is ∙ ap (λ (n : ℕ). shown (line + n)) (sym (thread_count code s t x)) in
    subst (λ (left : List DraftThread). Judging all (threads_judged code s (t + 1) left) at next) (sym (take_rest (x ∷ more) 1))
    (judging_part all (thread_judged code s t x) (threads_judged code s (t + 1) more) at line next j fits_it steps)

-- it has the first misfit
pub thread_misfit : (code : Code) (s : SetupView) (all : List Bool) (t : ℕ) (rest : List DraftThread) (d : DraftThread) (at line misfit : ℕ)
    → 1 ≤ length rest → d ≡ get_or rest 0 d → Judging all (threads_judged code s t rest) at line → Misfits (thread_judged code s t d) line (Some misfit) → Misfits all at (Some misfit)
thread_misfit code s all t [] d at line misfit some is j h = absurd (let e : 1 ≤ 0 = some in omega arith)
thread_misfit code s all t (x ∷ more) d at line misfit some is j h =
    judging_part_misfit all (thread_judged code s t x) (threads_judged code s (t + 1) more) at line misfit j
    (subst (λ (y : DraftThread). Misfits (thread_judged code s t y) line (Some misfit)) is h)

-- those that are left
pub few_left : (rest : List DraftThread) → AreFew rest → AreFew (take (length rest - 1) (drop 1 rest))
few_left [] few = tt
few_left (x ∷ more) few = subst AreFew (sym (take_rest (x ∷ more) 1)) few.1

-- one more is numbered, and one fewer is left
pub numbered_left : (n : ℕ) (rest : List DraftThread) (total : ℕ) → 1 ≤ length rest → n + length rest ≡ total → (n + 1) + length (take (length rest - 1) (drop 1 rest)) ≡ total
numbered_left n [] total some whole = absurd (let h : 1 ≤ 0 = some in omega arith)
numbered_left n (x ∷ more) total some whole = let e = ap (λ (ds : List DraftThread). length ds) (take_rest (x ∷ more) 1) in let f : length (drop 1 (x ∷ more)) ≡ length more = refl in omega arith
