-- The walk of a run whose threads have all ended.
use Rattle.std.proofs.Common.{◌≡◌, ℕ, zero, suc, ◌+◌, List, [], ◌∷◌, ◌++◌, length, Some, None, refl, sym, ap, subst, ◌∙◌, ◌⊎◌, ⊎_elim, arith}
use Rattle.std.specs.Prelude.{slice_get, take, drop}
use Rattle.std.specs.Option.{option_and_then}
use Rattle.std.proofs.lemmas.List.{take-append-drop}
use Rattle.std.proofs.lemmas.Option.{same_Some}
use Rattle.sync_objects.specs.Setup.{SetupView}
use Rattle.sync_objects.specs.declared.entry.Entry.{Entry}
use Rattle.flow_code.specs.declared.code.Code.{Code}
use Rattle.thread_interpreter.specs.declared.access.Formula.{Formula}
use Rattle.core_run.specs.declared.outcome.Walk.{Walk}
use Rattle.core_run.specs.declared.outcome.Walk.TheVariants as walk
use Rattle.core_run.specs.Histories.{HaveEnded}
use Rattle.core_run.specs.Machine.{Told, machine, start_state}
use Rattle.core_run.specs.Walks.{IsRefusedAt, IsUnfinished, WalkIs, walk_of}
use Rattle.run_theory.specs.Steps.{State}
use Rattle.run_theory.proofs.Solo.{walk-append}
use Rattle.recorder.specs.Records.{IsWholeWalk}

-- at each place of one of two lists that are as long the other has something, too
pub beside : {X Y : Type 0} (xs : List X) (ys : List Y) (t : ℕ) (x : X) → length xs ≡ length ys → slice_get xs t ≡ Some x → (y : Y) × (slice_get ys t ≡ Some y)
beside [] ys t x len at = cc
beside (z ∷ xs) [] t x len at = cc
beside (z ∷ xs) (y ∷ ys) zero x len at = (y, refl)
beside (z ∷ xs) (y ∷ ys) (suc t) x len at = beside xs ys t x (omega (arith, len)) at

take_drop : {X : Type 0} (n : ℕ) (xs : List X) → xs ≡ take n xs ++ drop n xs
take_drop n xs = sym (take-append-drop n xs)

-- a walk of all entries is none that stops
never_wrong : (code : Code) (s : SetupView) (es : List Entry) (end : State Told) (k : ℕ) → walk_of code s es (start_state code s) ≡ Some end → HaveEnded code s end → IsRefusedAt code s (start_state code s) es k ⊎ IsUnfinished code s (start_state code s) es k → ⊥
never_wrong code s es end k walked ended wrong = ⊎_elim
    (λ r.
    let f : Some end ≡ None = sym walked ∙ ap (λ xs. walk_of code s xs (start_state code s)) (take_drop (k + 1) es) ∙ walk-append (machine code s) (take (k + 1) es) (drop (k + 1) es) (start_state code s) ∙ ap (option_and_then (walk_of code s (drop (k + 1) es))) r.refused in
    cc)
    (λ u. u.open_end (subst (HaveEnded code s) (same_Some end u.last (sym walked ∙ u.walked)) ended))
    wrong

pub whole_walk : (code : Code) (s : SetupView) (es : List Entry) (f : Formula) (end : State Told) (w : Walk) → walk_of code s es (start_state code s) ≡ Some end → HaveEnded code s end → WalkIs code s es f w → IsWholeWalk w
whole_walk code s es f end (walk.Done out reads ends) walked ended is = tt
whole_walk code s es f end (walk.Trapped kind thread line out reads ends) walked ended is = tt
whole_walk code s es f end (walk.Wrong at) walked ended is = absurd (never_wrong code s es end is.0 walked ended is.2)
