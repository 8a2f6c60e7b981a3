-- The state between the own steps of a thread: so many of them are left.
use Rattle.std.proofs.Common.{◌≡◌, arith, ◌<◌, ◌-◌, ap, ℕ, zero, suc, List, None, refl, sym, subst, ◌∙◌}
use Rattle.std.specs.Prelude.{slice_get}
use Rattle.sync_objects.specs.Setup.{SetupView}
use Rattle.flow_code.specs.declared.code.Code.{Code}
use Rattle.thread_interpreter.specs.declared.access.Access.{Access}
use Rattle.thread_interpreter.specs.declared.access.Formula.{Formula}
use Rattle.thread_interpreter.specs.Flows.{Running}
use Rattle.core_run.specs.Machine.{Told, machine}
use Rattle.core_run.specs.Walks.{pieces_of}
use Rattle.core_run.specs.Outside.{ComesOutside, GoesOutside}
use Rattle.core_run.specs.Shown.{IsShown, StepsTo, GoesTo, IsStuck}
use Rattle.core_run.proofs.LeavingCells.{outside_more, outside_less, stuck_inside, comes_at_once, none_left}
use Rattle.run_theory.specs.Steps.{State}
use Rattle.run_theory.specs.Walk.{alone}
use Rattle.run_theory.proofs.Solo.{alone_more}

-- of n own steps of thread t from the state, these are left
pub record Leaves (code : Code) (s : SetupView) (f : Formula) (n left t : ℕ) (st : State Told) (flows : List Running) (words : List ℕ) (reads : List (List Access)) : Type 0 where
  pub next : State Told
  pub goes : alone (machine code s) n t st ≡ alone (machine code s) left t next
  pub outside : GoesOutside code s left t next → GoesOutside code s n t st
  pub inside : GoesOutside code s n t st → GoesOutside code s left t next
  pub shown : IsShown f flows words reads next
  pub same_pieces : pieces_of (slice_get next.threads t) ≡ pieces_of (slice_get st.threads t)

module _ (code : Code) (s : SetupView) (f : Formula) (n t : ℕ) (st : State Told) where
  pub leaves_all : (flows : List Running) (words : List ℕ) (reads : List (List Access)) → IsShown f flows words reads st → Leaves code s f n n t st flows words reads
  leaves_all flows words reads h = record { next = st; goes = refl; outside = λ g. g; inside = λ g. g; shown = h; same_pieces = refl }

  pub leaves_less : (left : ℕ) (flows1 : List Running) (words1 : List ℕ) (reads1 : List (List Access)) (flows : List Running) (words : List ℕ) (reads : List (List Access)) → 0 < left → (l : Leaves code s f n left t st flows words reads) → StepsTo code s f t l.next flows1 words1 reads1 → Leaves code s f n (left - 1) t st flows1 words1 reads1
  leaves_less zero flows1 words1 reads1 flows words reads lt l h = absurd (omega arith)
  leaves_less (suc left) flows1 words1 reads1 flows words reads lt l h =
      let less : left ≡ suc left - 1 = omega arith in
      record {
        next = h.next;
        goes = l.goes ∙ alone_more (machine code s) left t l.next h.next h.steps h.adds ∙ ap (λ k. alone (machine code s) k t h.next) less;
        outside = λ g. l.outside (outside_more code s left t l.next h.next h.steps h.adds (subst (λ k. GoesOutside code s k t h.next) (sym less) g));
        inside = λ g. subst (λ k. GoesOutside code s k t h.next) less (outside_less code s left t l.next h.next h.steps h.adds (l.inside g));
        shown = h.shown;
        same_pieces = h.same_pieces ∙ l.same_pieces;
      }

  pub leaves_stuck : (left : ℕ) (flows : List Running) (words : List ℕ) (reads : List (List Access)) → 0 < left → (l : Leaves code s f n left t st flows words reads) → IsStuck code s t l.next → alone (machine code s) n t st ≡ None
  leaves_stuck zero flows words reads lt l h = absurd (omega arith)
  leaves_stuck (suc left) flows words reads lt l h = l.goes ∙ h left

  -- a thread that can go no further, for want of a cell or not

  pub leaves_refused : (left : ℕ) (flows : List Running) (words : List ℕ) (reads : List (List Access)) → 0 < left → (l : Leaves code s f n left t st flows words reads) → IsStuck code s t l.next × (ComesOutside code s t l.next → ⊥) → (alone (machine code s) n t st ≡ None) × (GoesOutside code s n t st → ⊥)
  leaves_refused left flows words reads lt l h = (leaves_stuck left flows words reads lt l h.0, λ g. stuck_inside code s left t l.next h.0 h.1 (l.inside g))

  pub leaves_outside : (left : ℕ) (flows : List Running) (words : List ℕ) (reads : List (List Access)) → 0 < left → (l : Leaves code s f n left t st flows words reads) → IsStuck code s t l.next × ComesOutside code s t l.next → (alone (machine code s) n t st ≡ None) × GoesOutside code s n t st
  leaves_outside left flows words reads lt l h = (leaves_stuck left flows words reads lt l h.0, l.outside (comes_at_once code s left t l.next lt h.1))

  pub leaves_none : (left : ℕ) (flows : List Running) (words : List ℕ) (reads : List (List Access)) → left ≡ 0 → Leaves code s f n left t st flows words reads → GoesTo code s f n t st flows words reads
  leaves_none left flows words reads e l = record { next = l.next; goes = l.goes ∙ ap (λ k. alone (machine code s) k t l.next) e; inside = λ g. none_left code s left t l.next e (l.inside g); shown = l.shown; same_pieces = l.same_pieces }
