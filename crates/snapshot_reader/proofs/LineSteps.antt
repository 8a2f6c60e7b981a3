-- One more line is judged, and fits.
use Rattle.std.proofs.Common.{◌≡◌, ℕ, ◌+◌, ◌-◌, ◌≤◌, min, Bool, true, List, [], ◌∷◌, length, take, drop, Option, Some, sym, ap, subst, ◌∙◌, arith}
use Rattle.std.proofs.Math.ListN.{get_or}
use Rattle.std.proofs.lemmas.List.{take_rest}
use Rattle.sync_objects.specs.Setup.{SetupView}
use Rattle.sync_objects.specs.declared.object.ObjId.{ObjId}
use Rattle.flow_code.specs.declared.code.Code.{Code}
use Rattle.core_run.specs.Words.{cells_of}
use Rattle.snapshots.specs.Conditions.{cell_fits, cells_judged, object_fits, objects_judged, rank}
use Rattle.snapshot_reader.specs.Misfits.{Judging}
use Rattle.snapshot_reader.proofs.Judging.{judging_next}

pub next_cell : (code : Code) (s : SetupView) (all : List Bool) (before : Option ℕ) (rest : List (ℕ × ℕ)) (d : ℕ × ℕ) (at line next n : ℕ) (b : Bool)
    → 1 ≤ length rest → Judging all (cells_judged code s before rest) at line
    → b ≡ cell_fits code s before (get_or rest 0 d) → b ≡ true → n ≡ (get_or rest 0 d).0 → next ≡ min (line + 1) 4294967295
    → Judging all (cells_judged code s (Some n) (take (length rest - 1) (drop 1 rest))) at next
next_cell code s all before [] d at line next n b some j fits here number step = absurd (let h : 1 ≤ 0 = some in omega arith)
next_cell code s all before (cell ∷ more) d at line next n b some j fits here number step =
    subst (λ (left : List (ℕ × ℕ)). Judging all (cells_judged code s (Some n) left) at next) (sym (take_rest (cell ∷ more) 1))
    (subst (λ (m : ℕ). Judging all (cells_judged code s (Some m) more) at next) (sym number)
    (judging_next all (cells_judged code s (Some cell.0) more) (cell_fits code s before cell) at line next j (sym fits ∙ here) step))

pub next_object : (code : Code) (s : SetupView) (cells : ℕ) (all : List Bool) (before : Option ℕ) (rest : List (ObjId × ℕ × ℕ)) (d : ObjId × ℕ × ℕ) (at line next n : ℕ) (b : Bool)
    → cells ≡ cells_of code s → 1 ≤ length rest → Judging all (objects_judged code s before rest) at line
    → b ≡ object_fits code s before (get_or rest 0 d) → b ≡ true → n ≡ rank cells (length code.locks) (get_or rest 0 d).0 → next ≡ min (line + 1) 4294967295
    → Judging all (objects_judged code s (Some n) (take (length rest - 1) (drop 1 rest))) at next
next_object code s cells all before [] d at line next n b same some j fits here number step = absurd (let h : 1 ≤ 0 = some in omega arith)
next_object code s cells all before (o ∷ more) d at line next n b same some j fits here number step =
    subst (λ (left : List (ObjId × ℕ × ℕ)). Judging all (objects_judged code s (Some n) left) at next) (sym (take_rest (o ∷ more) 1))
    (subst (λ (m : ℕ). Judging all (objects_judged code s (Some m) more) at next) (sym (number ∙ ap (λ (k : ℕ). rank k (length code.locks) o.0) same))
    (judging_next all (objects_judged code s (Some (rank (cells_of code s) (length code.locks) o.0)) more) (object_fits code s before o) at line next j (sym fits ∙ here) step))
