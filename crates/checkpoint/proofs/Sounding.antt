-- The words stay sound along a walk from any state whose words are: each entry adds one operation.
use Rattle.std.proofs.Common.{◌≡◌, ℕ, zero, suc, ◌+◌, ◌-◌, ◌^◌, ◌<◌, ◌≤◌, Bool, true, false, if◌then◌else◌, List, [], ◌∷◌, length, Option, Some, None, refl, sym, ap, subst, ◌∙◌, pos, arith, length-set}
use Rattle.std.specs.Prelude.{slice_get, slice_set, option_and_then}
use Rattle.std.proofs.lemmas.Option.{same_Some, slice_get_within}
use Rattle.sync_objects.specs.Setup.{SetupView, IsWithinLimits}
use Rattle.sync_objects.specs.declared.entry.Entry.{Entry}
use Rattle.sync_objects.specs.declared.entry.Noted.{Noted}
use Rattle.flow_code.specs.declared.code.Code.{Code}
use Rattle.flow_code.specs.Settle.{IsRunnable}
use Rattle.core_run.specs.Kept.{AreSound}
use Rattle.core_run.specs.Machine.{Told, effect_of, machine}
use Rattle.core_run.proofs.SoundWords.{sound_more, sound_step}
use Rattle.run_theory.specs.Labels.{Label, Go, label_thread, label_of}
use Rattle.run_theory.specs.Same.{same_entry}
use Rattle.run_theory.specs.Steps.{Becomes, Leaves, Effect, Refused, Marks, Loads, Stores, Operates, State, outcome, stepped, added, count_of}
use Rattle.run_theory.specs.Walk.{if_nothing, if_only, alone, made, part}
use Rattle.run_theory.proofs.Swap.{load_inv, change_inv, steps_of}

-- so many words and threads, and words that are sound after at most n operations
pub record Sounds (code : Code) (s : SetupView) (size n : ℕ) (st : State Told) : Type 0 where
  pub threads : length st.threads ≡ s.slots
  pub words : length st.words ≡ size
  pub sound : AreSound code s n st.words

module _ (code : Code) (s : SetupView) (runnable : IsRunnable code) (limits : IsWithinLimits s) where
  outcome_length : (words after : List ℕ) (e : Effect Told) (q : Told) → outcome (machine code s) words e ≡ Leaves after q → length after ≡ length words
  outcome_length words after Refused q e = cc
  outcome_length words after (Marks th) q e = let same : words ≡ after = cc in ap length (sym same)
  outcome_length words after (Loads c next) q e = ap length (load_inv words next (slice_get words c) after q e).2
  outcome_length words after (Stores c w th) q e = let i = change_inv words c (λ v. Becomes w (pos 0) th) (slice_get words c) after q e in ap length i.5 ∙ length-set words c i.1
  outcome_length words after (Operates x change) q e =
      let p = (machine code s).place x.obj in
      let i = change_inv words p change (slice_get words p) after q e in
      ap length i.5 ∙ length-set words p i.1

  step_sounds : (size n : ℕ) (st st1 : State Told) (l : Label) → n < 2 ^ 32 - 1 → stepped (machine code s) st l ≡ Some st1 → Sounds code s size n st → Sounds code s size (n + length (added (machine code s) st l)) st1
  step_sounds size n st st1 l few e h =
      let x = steps_of (machine code s) st l st1 e in
      let here = slice_get_within st.threads (label_thread l) x.before x.stands in
      let len = h.threads in
      let slots = limits.few_slots in
      record {
        threads = ap (λ (z : State Told). length z.threads) x.to ∙ length-set st.threads (label_thread l) x.after ∙ h.threads;
        words = ap (λ (z : State Told). length z.words) x.to ∙ outcome_length st.words x.words (effect_of code s l x.before) x.after x.leaves ∙ h.words;
        sound = sound_step code s runnable limits n st st1 l few (omega (arith, here, len, slots)) e h.sound;
      }

  sounds_as : (size m n : ℕ) (st : State Told) → m ≡ n → Sounds code s size m st → Sounds code s size n st
  sounds_as size m n st e h = subst (λ k. Sounds code s size k st) e h

  alone_sounds : (size m n t : ℕ) (st st1 : State Told) → m < 2 ^ 32 - 1 → alone (machine code s) n t st ≡ Some st1 → Sounds code s size m st → Sounds code s size m st1
  alone_sounds size m zero t st st1 few e h = subst (Sounds code s size m) (same_Some st st1 e) h
  alone_sounds size m (suc n) t st st1 few e h = go (added (machine code s) st (Go t)) (stepped (machine code s) st (Go t)) refl refl e (λ mid. alone_sounds size m n t mid st1 few)
    where
      go : (xs : List Noted) (o : Option (State Told)) → added (machine code s) st (Go t) ≡ xs → stepped (machine code s) st (Go t) ≡ o → if_nothing xs (option_and_then (alone (machine code s) n t) o) ≡ Some st1 → ((mid : State Told) → alone (machine code s) n t mid ≡ Some st1 → Sounds code s size m mid → Sounds code s size m st1) → Sounds code s size m st1
      go [] None a f g again = cc
      go [] (Some mid) a f g again = again mid g (sounds_as size (m + length (added (machine code s) st (Go t))) m mid (omega (arith, ap length a)) (step_sounds size m st mid (Go t) few f h))
      go (x ∷ xs) o a f g again = cc

  made_sounds : (size m : ℕ) (e : Entry) (st st1 : State Told) → m < 2 ^ 32 - 1 → made (machine code s) e st ≡ Some st1 → Sounds code s size m st → Sounds code s size (m + 1) st1
  made_sounds size m e st st1 few g h = go (added (machine code s) st (label_of e)) refl g
    where
      step : (x : Noted) → added (machine code s) st (label_of e) ≡ x ∷ [] → stepped (machine code s) st (label_of e) ≡ Some st1 → Sounds code s size (m + 1) st1
      step x a f = sounds_as size (m + length (added (machine code s) st (label_of e))) (m + 1) st1 (omega (arith, ap length a)) (step_sounds size m st st1 (label_of e) few f h)

      choice : (b : Bool) (x : Noted) → added (machine code s) st (label_of e) ≡ x ∷ [] → (if b then stepped (machine code s) st (label_of e) else None) ≡ Some st1 → Sounds code s size (m + 1) st1
      choice true x a f = step x a f
      choice false x a f = cc

      go : (xs : List Noted) → added (machine code s) st (label_of e) ≡ xs → if_only e xs (stepped (machine code s) st (label_of e)) ≡ Some st1 → Sounds code s size (m + 1) st1
      go [] a f = cc
      go (x ∷ []) a f = choice (same_entry x.entry e) x a f
      go (x ∷ y ∷ xs) a f = cc

  pub part_sounds : (size m : ℕ) (e : Entry) (st st1 : State Told) → m < 2 ^ 32 - 1 → part (machine code s) e st ≡ Some st1 → Sounds code s size m st → Sounds code s size (m + 1) st1
  part_sounds size m e st st1 few g h = go (alone (machine code s) (e.count - count_of (machine code s) st e.thread) e.thread st) refl g
    where
      go : (o : Option (State Told)) → alone (machine code s) (e.count - count_of (machine code s) st e.thread) e.thread st ≡ o → option_and_then (made (machine code s) e) o ≡ Some st1 → Sounds code s size (m + 1) st1
      go None a f = cc
      go (Some mid) a f = made_sounds size m e mid st1 few f (alone_sounds size m (e.count - count_of (machine code s) st e.thread) e.thread st mid few a h)
