-- A walk is a run.
use Rattle.std.proofs.Common.{◌≡◌, ℕ, zero, suc, ◌-◌, List, [], ◌∷◌, Bool, true, false, if◌then◌else◌, Option, Some, None, replicate, refl, ap, ◌∙◌}
use Rattle.std.specs.Prelude.{option_and_then}
use Rattle.sync_objects.specs.Setup.{SetupView}
use Rattle.sync_objects.specs.declared.entry.Entry.{Entry}
use Rattle.sync_objects.specs.declared.entry.Noted.{Noted}
use Rattle.flow_code.specs.declared.code.Code.{Code}
use Rattle.core_run.specs.Histories.{run_of}
use Rattle.core_run.specs.Machine.{Told, machine, start_state}
use Rattle.core_run.specs.Walks.{walk_of}
use Rattle.run_theory.specs.Labels.{Go, label_of}
use Rattle.run_theory.specs.Steps.{State, stepped, added, run, count_of}
use Rattle.run_theory.specs.Same.{same_entry}
use Rattle.run_theory.specs.Walk.{if_nothing, if_only, alone, made, part}
use Rattle.run_theory.proofs.Kept.{run_append}
use Rattle.lowering_simulation.specs.WalkEvents.{part_labels, labels_on, labels_from, labels_of_walk}

nothing_inv : {A : Type 0} (xs : List Noted) (o : Option A) (x : A) → if_nothing xs o ≡ Some x → o ≡ Some x
nothing_inv [] o x h = h
nothing_inv (y ∷ ys) o x h = cc

pub then_inv : {A B : Type 0} (f : A → Option B) (o : Option A) (y : B) → option_and_then f o ≡ Some y → (x : A) × (o ≡ Some x) × (f x ≡ Some y)
then_inv f None y h = cc
then_inv f (Some x) y h = (x, refl, h)

if_inv : {A : Type 0} (b : Bool) (o : Option A) (x : A) → (if b then o else None) ≡ Some x → o ≡ Some x
if_inv true o x h = h
if_inv false o x h = cc

only_inv : {A : Type 0} (e : Entry) (xs : List Noted) (o : Option A) (y : A) → if_only e xs o ≡ Some y → o ≡ Some y
only_inv e [] o y h = cc
only_inv e (x ∷ []) o y h = if_inv (same_entry x.entry e) o y h
only_inv e (x ∷ z ∷ xs) o y h = cc

module _ (code : Code) (s : SetupView) where
  alone_runs : (n t : ℕ) (st st1 : State Told) → alone (machine code s) n t st ≡ Some st1 → run (machine code s) (replicate n (Go t)) st ≡ Some st1
  alone_runs zero t st st1 h = h
  alone_runs (suc n) t st st1 h =
      let a = then_inv (alone (machine code s) n t) (stepped (machine code s) st (Go t)) st1 (nothing_inv (added (machine code s) st (Go t)) (option_and_then (alone (machine code s) n t) (stepped (machine code s) st (Go t))) st1 h) in
      ap (option_and_then (run (machine code s) (replicate n (Go t)))) a.1 ∙ alone_runs n t a.0 st1 a.2

  pub part_runs : (e : Entry) (st st1 : State Told) → part (machine code s) e st ≡ Some st1 → run (machine code s) (part_labels code s e st) st ≡ Some st1
  part_runs e st st1 h =
      let n = e.count - count_of (machine code s) st e.thread in
      let a = then_inv (made (machine code s) e) (alone (machine code s) n e.thread st) st1 h in
      let last = only_inv e (added (machine code s) a.0 (label_of e)) (stepped (machine code s) a.0 (label_of e)) st1 a.2 in
      run_append (machine code s) (replicate n (Go e.thread)) (label_of e ∷ []) st a.0 st1 (alone_runs n e.thread st a.0 a.1) (ap (option_and_then (run (machine code s) [])) last)

  walk_runs : (es : List Entry) (st st1 : State Told) → walk_of code s es st ≡ Some st1 → run (machine code s) (labels_from code s es st) st ≡ Some st1
  walk_runs [] st st1 h = h
  walk_runs (e ∷ es) st st1 h =
      let a = then_inv (walk_of code s es) (part (machine code s) e st) st1 h in
      run_append (machine code s) (part_labels code s e st) (labels_on code s (labels_from code s es) (part (machine code s) e st)) st a.0 st1 (part_runs e st a.0 a.1)
      (ap (λ o. run (machine code s) (labels_on code s (labels_from code s es) o) a.0) a.1 ∙ walk_runs es a.0 st1 a.2)

  pub walk_is_run : (es : List Entry) (end : State Told) → walk_of code s es (start_state code s) ≡ Some end → run_of code s (labels_of_walk code s es) ≡ Some end
  walk_is_run es end h = walk_runs es (start_state code s) end h
