-- The part of one entry, from its thread's own steps and the entry's operation.
use Rattle.std.proofs.Common.{◌≡◌, ℕ, zero, suc, ◌<◌, ◌≤◌, ◌-◌, Bool, true, false, List, [], ◌∷◌, length, drop, Some, None, refl, sym, ap, ◌∙◌, subst, arith}
use Rattle.std.specs.Prelude.{slice_get}
use Rattle.std.specs.Option.{option_and_then}
use Rattle.std.proofs.lemmas.List.{length-map}
use Rattle.std.proofs.lemmas.Option.{slice_get_past}
use Rattle.sync_objects.specs.Setup.{SetupView}
use Rattle.sync_objects.specs.declared.entry.Entry.{Entry}
use Rattle.flow_code.specs.declared.code.Code.{Code}
use Rattle.core_run.specs.Words.{cells_of, place_of}
use Rattle.thread_interpreter.specs.declared.access.Access.{Access}
use Rattle.thread_interpreter.specs.declared.access.Formula.{Formula}
use Rattle.thread_interpreter.specs.Flows.{Running}
use Rattle.core_run.specs.Kept.{AreSound}
use Rattle.core_run.specs.Machine.{Told, machine}
use Rattle.core_run.specs.Parts.{KeepsObjects}
use Rattle.core_run.specs.Walks.{pieces_of, joined}
use Rattle.core_run.specs.Outside.{GoesOutside, IsOutside}
use Rattle.core_run.specs.Shown.{running_thread, told_thread, IsShown, GoesTo, EntryStep, PartStep, IsStuck}
use Rattle.core_run.proofs.LeavingCells.{no_thread}
use Rattle.core_run.proofs.Places.{place_past}
use Rattle.core_run.proofs.Walked.{stands}
use Rattle.run_theory.specs.Labels.{Go, label_of}
use Rattle.run_theory.specs.Steps.{State, stepped, entry_of_thread, step_of_thread, count_of, count_or_zero}
use Rattle.run_theory.specs.Walk.{if_only, if_nothing, alone, made, part}
use Rattle.run_theory.proofs.Apart.{thread_of_label}

-- words of objects that are as they were are still sound
pub still_sound : (code : Code) (s : SetupView) (most cells : ℕ) (ws ws1 : List ℕ) → cells ≡ cells_of code s → KeepsObjects cells ws ws1 → AreSound code s most ws → AreSound code s most ws1
still_sound code s most cells ws ws1 e keeps sound = record {
  each = λ o w has at.
      let following : cells_of code s ≤ place_of (cells_of code s) o = place_past (cells_of code s) o in
      sound.each o w has (sym (keeps.objects (place_of (cells_of code s) o) (omega (arith, e, following))) ∙ at);
}

running_at : (flows : List Running) (t : ℕ) → t < length flows → (r : Running) × (slice_get flows t ≡ Some r)
running_at [] t lt = absurd (omega arith)
running_at (r ∷ rs) zero lt = (r, refl)
running_at (r ∷ rs) (suc t) lt = running_at rs t (omega arith)

module _ (code : Code) (s : SetupView) (f : Formula) (e : Entry) (st : State Told) where
  -- a thread that there isn't
  pub outside : (flows : List Running) (words : List ℕ) (reads : List (List Access)) → IsShown f flows words reads st → length flows ≤ e.thread → slice_get st.threads e.thread ≡ None
  outside flows words reads h le = slice_get_past st.threads e.thread (omega (arith, sym (length-map flows running_thread) ∙ ap length h.threads_are ∙ length-map st.threads told_thread))

  made_outside : slice_get st.threads e.thread ≡ None → made (machine code s) e st ≡ None
  made_outside h = ap (λ z. if_only e z (stepped (machine code s) st (label_of e))) (ap (entry_of_thread (machine code s) st.words (label_of e)) (ap (slice_get st.threads) (sym (thread_of_label e (label_of e) refl)) ∙ h))

  alone_outside : slice_get st.threads e.thread ≡ None → IsStuck code s e.thread st
  alone_outside h n =
      ap (λ z. if_nothing z (option_and_then (alone (machine code s) n e.thread) (stepped (machine code s) st (Go e.thread)))) (ap (entry_of_thread (machine code s) st.words (Go e.thread)) h)
      ∙ ap (option_and_then (alone (machine code s) n e.thread)) (ap (step_of_thread (machine code s) st (Go e.thread)) h)

  pub part_outside : slice_get st.threads e.thread ≡ None → part (machine code s) e st ≡ None
  part_outside h = go (e.count - count_of (machine code s) st e.thread)
    where
      go : (n : ℕ) → option_and_then (made (machine code s) e) (alone (machine code s) n e.thread st) ≡ None
      go zero = made_outside h
      go (suc n) = ap (option_and_then (made (machine code s) e)) (alone_outside h n)

  pub end_outside : slice_get st.threads e.thread ≡ None → (part (machine code s) e st ≡ None) × (IsOutside code s e st → ⊥)
  end_outside h = (part_outside h, no_thread code s (e.count - count_of (machine code s) st e.thread) e.thread st h (alone_outside h))

  -- how many events the thread has after it
  pub count_is : (flows : List Running) (words : List ℕ) (reads : List (List Access)) (r : Running) → IsShown f flows words reads st → slice_get flows e.thread ≡ Some r → count_of (machine code s) st e.thread ≡ r.kept.thread.count
  count_is flows words reads r h at =
      let it = stands f flows words reads st e.thread r h at in
      ap (count_or_zero (machine code s)) it.at ∙ ap (λ z. z.count) it.is

  -- how many own steps there are up to the entry's count
  pub left_is : (flows : List Running) (words : List ℕ) (reads : List (List Access)) → IsShown f flows words reads st → e.thread < length flows → (n got : ℕ) → ((r : Running) → slice_get flows e.thread ≡ Some r → got ≡ r.kept.thread.count) → n ≡ e.count - got → n ≡ e.count - count_of (machine code s) st e.thread
  left_is flows words reads h lt n got g q = let r = running_at flows e.thread lt in q ∙ ap (λ z. e.count - z) (g r.0 r.1 ∙ sym (count_is flows words reads r.0 h r.1))

  part_stuck : (n : ℕ) → n ≡ e.count - count_of (machine code s) st e.thread → alone (machine code s) n e.thread st ≡ None → part (machine code s) e st ≡ None
  part_stuck n q h = ap (λ k. option_and_then (made (machine code s) e) (alone (machine code s) k e.thread st)) (sym q) ∙ ap (option_and_then (made (machine code s) e)) h

  -- the same of cells that the machine doesn't have

  pub end_refused : (n : ℕ) → n ≡ e.count - count_of (machine code s) st e.thread → (alone (machine code s) n e.thread st ≡ None) × (GoesOutside code s n e.thread st → ⊥) → (part (machine code s) e st ≡ None) × (IsOutside code s e st → ⊥)
  end_refused n q h = (part_stuck n q h.0, λ g. h.1 (subst (λ k. GoesOutside code s k e.thread st) (sym q) g))

  pub end_missing : (n : ℕ) → n ≡ e.count - count_of (machine code s) st e.thread → (alone (machine code s) n e.thread st ≡ None) × GoesOutside code s n e.thread st → (part (machine code s) e st ≡ None) × IsOutside code s e st
  end_missing n q h = (part_stuck n q h.0, subst (λ k. GoesOutside code s k e.thread st) q h.1)

  pub end_inside : (n : ℕ) → n ≡ e.count - count_of (machine code s) st e.thread → (GoesOutside code s n e.thread st → ⊥) → IsOutside code s e st → ⊥
  end_inside n q h g = h (subst (λ k. GoesOutside code s k e.thread st) (sym q) g)

  part_from : (n : ℕ) (next : State Told) → n ≡ e.count - count_of (machine code s) st e.thread → alone (machine code s) n e.thread st ≡ Some next → part (machine code s) e st ≡ made (machine code s) e next
  part_from n next q h = ap (λ k. option_and_then (made (machine code s) e) (alone (machine code s) k e.thread st)) (sym q) ∙ ap (option_and_then (made (machine code s) e)) h

  -- the entry's operation after the own steps
  pub part_is : (n : ℕ) (flows : List Running) (words : List ℕ) (reads : List (List Access)) (flows1 : List Running) (words1 : List ℕ) (before after : List ℕ) (b : Bool) → n ≡ e.count - count_of (machine code s) st e.thread → (g : GoesTo code s f n e.thread st flows words reads) → EntryStep code s f e g.next flows1 words1 reads before after b → PartStep code s f e st flows1 words1 reads before after b
  part_is n flows words reads flows1 words1 before after false q g h = part_from n g.next q g.goes ∙ h
  part_is n flows words reads flows1 words1 before after true q g h = (
    h.0,
    h.1,
    record {
      next = h.2.next;
      parts = part_from n g.next q g.goes ∙ h.2.makes;
      shown = h.2.shown;
      prints = h.2.prints ∙ ap (λ z. joined (drop (length z) (pieces_of (slice_get h.2.next.threads e.thread)))) g.same_pieces;
    },
  )
