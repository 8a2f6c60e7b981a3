-- The cells that a checkpoint lists ascend, the machine has them, and their words aren't 0.
use Rattle.std.proofs.Common.{◌≡◌, ℕ, ◌+◌, ◌<◌, ◌≤◌, Bool, true, false, not, nat_lt, List, [], ◌∷◌, ◌++◌, length, take, Option, Some, None, refl, ap, arith}
use Rattle.std.specs.Prelude.{◌&&◌, ◌==◌, if◌then◌else◌}
use Rattle.std.proofs.lemmas.Bool.{ltb-true, lt-ltb}
use Rattle.std.proofs.lemmas.List.{length-take}
use Rattle.sync_objects.specs.Setup.{SetupView}
use Rattle.flow_code.specs.declared.code.Code.{Code}
use Rattle.core_run.specs.Words.{cells_of}
use Rattle.core_run.specs.Machine.{Told}
use Rattle.run_theory.specs.Steps.{State}
use Rattle.snapshots.specs.Conditions.{AllFit, is_after, cells_judged}
use Rattle.snapshots.specs.Snapshots.{cells_from, snapshot_of}

pub both : (a b : Bool) → a ≡ true → b ≡ true → (a && b) ≡ true
both true b h k = k
both false b h k = h

-- judgements one after another
pub joined : (xs ys : List Bool) → AllFit xs → AllFit ys → AllFit (xs ++ ys)
joined [] ys h k = k
joined (x ∷ xs) ys h k = (h.0, joined xs ys h.1 k)

-- what comes after a number comes after all before it
pub later : (before : Option ℕ) (n m : ℕ) → n ≤ m → is_after before n ≡ true → is_after before m ≡ true
later None n m le h = refl
later (Some k) n m le h = let lt = ltb-true k n h in lt-ltb k m (omega arith)

module _ (code : Code) (s : SetupView) where
  from : (before : Option ℕ) (first : ℕ) (ws : List ℕ) → is_after before first ≡ true → first + length ws ≤ cells_of code s → AllFit (cells_judged code s before (cells_from first ws))
  from before first [] after le = tt
  from before first (w ∷ ws) after le = by (w == 0) refl (from before (first + 1) ws (later before first (first + 1) (omega arith) after) rest) (from (Some first) (first + 1) ws (lt-ltb first (first + 1) (omega arith)) rest)
    where
      within : first < cells_of code s
      within = omega arith

      rest : (first + 1) + length ws ≤ cells_of code s
      rest = omega arith

      by : (b : Bool) → (w == 0) ≡ b → AllFit (cells_judged code s before (cells_from (first + 1) ws)) → AllFit (cells_judged code s (Some first) (cells_from (first + 1) ws)) → AllFit (cells_judged code s before (if b then cells_from (first + 1) ws else (first, w) ∷ cells_from (first + 1) ws))
      by true e skipped taken = skipped
      by false e skipped taken = (both (nat_lt first (cells_of code s)) (is_after before first && not (w == 0)) (lt-ltb first (cells_of code s) within) (both (is_after before first) (not (w == 0)) after (ap not e)), taken)

  pub cells_fit : (at : ℕ) (st : State Told) → AllFit (cells_judged code s None (snapshot_of code s at st).cells)
  cells_fit at st =
      let some : length (take (cells_of code s) st.words) ≤ cells_of code s = grind (arith, length-take (cells_of code s) st.words) in
      from None 0 (take (cells_of code s) st.words) refl (omega arith)
