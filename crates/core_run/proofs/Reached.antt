-- What holds of each state that can be reached from the start.
use Rattle.std.proofs.Common.{◌≡◌, ℕ, zero, suc, ◌+◌, ◌*◌, ◌^◌, ◌≤◌, List, [], ◌∷◌, length, Some, refl, sym, ap, ◌∙◌, pos, arith, length-set}
use Rattle.std.specs.Prelude.{slice_get, slice_set, sum_by}
use Rattle.std.proofs.lemmas.List.{length-append}
use Rattle.std.proofs.lemmas.List.Sums.{sum_by-set, sum_by-cons}
use Rattle.std.proofs.lemmas.Option.{slice_get_within, get_or_from_slice_get}
use Rattle.sync_objects.specs.Setup.{SetupView, IsWithinLimits}
use Rattle.flow_code.specs.declared.code.Code.{Code}
use Rattle.flow_code.specs.Settle.{IsRunnable}
use Rattle.flow_code.specs.Ranges.{InRange}
use Rattle.flow_code.proofs.Endings.{few_endings}
use Rattle.core_run.specs.Words.{start_words}
use Rattle.core_run.specs.Machine.{Told, effect_of, machine, start_threads_from, start_state}
use Rattle.core_run.specs.Kept.{AreSound, AreInRange, endings_in, most_operations, IsKept}
use Rattle.core_run.proofs.Listed.{IsListed, AreListed, threads_listed, start_listed}
use Rattle.core_run.proofs.SoundWords.{sound_start, sound_more, sound_step}
use Rattle.core_run.proofs.ThreadRanges.{start_all_in_range, threads_in_range}
use Rattle.core_run.proofs.Told.{effect_tells, outcome_tells}
use Rattle.run_theory.specs.Labels.{Label, label_thread}
use Rattle.run_theory.specs.Steps.{Becomes, Leaves, Effect, Refused, Marks, Loads, Stores, Operates, State, outcome, stepped, effect_entry, added, Reaches}
use Rattle.run_theory.proofs.Swap.{load_inv, change_inv, steps_of, adds_of}
use Rattle.run_theory.proofs.Kept.{kept_along}

-- the entries of a thread
abbrev steps_in : Told → ℕ
steps_in told = length told.entries

module _ (code : Code) (s : SetupView) where
  outcome_words : (words after : List ℕ) (e : Effect Told) (told : Told) → outcome (machine code s) words e ≡ Leaves after told → length after ≡ length words
  outcome_words words after Refused told e = cc
  outcome_words words after (Marks th) told e = let words_are : words ≡ after = cc in ap length (sym words_are)
  outcome_words words after (Loads c next) told e = let i = load_inv words next (slice_get words c) after told e in ap length i.2
  outcome_words words after (Stores c w th) told e = let i = change_inv words c (λ v. Becomes w (pos 0) th) (slice_get words c) after told e in ap length i.5 ∙ length-set words c i.1
  outcome_words words after (Operates x change) told e =
      let p = (machine code s).place x.obj in
      let i = change_inv words p change (slice_get words p) after told e in
      ap length i.5 ∙ length-set words p i.1

  -- those of all threads
  abbrev all_steps : List Told → ℕ
  all_steps threads = sum_by steps_in threads

  set_steps : (threads : List Told) (t : ℕ) (before after : Told) (n : ℕ) → slice_get threads t ≡ Some before → steps_in before + n ≤ steps_in after → all_steps threads + n ≤ all_steps (slice_set threads t after)
  set_steps threads t before after n at h =
      let sums = sum_by-set steps_in threads t after before (slice_get_within threads t before at) in
      let same = ap steps_in (get_or_from_slice_get threads t before before at) in
      omega arith

  -- no thread has more entries than so many
  abbrev most_steps : ℕ
  most_steps = 2 ^ 20 + 2

  few_steps : (t : ℕ) (told : Told) → InRange code s 0 t told.thread → IsListed code s t told → steps_in told ≤ most_steps
  few_steps t told h l = let f = few_endings code s t told.thread (endings_in told.entries) l.ends in let e = h.few_entries in let sum = l.sum in omega arith

  steps_bound : (threads : List Told) → ((t : ℕ) (told : Told) → slice_get threads t ≡ Some told → steps_in told ≤ most_steps) → all_steps threads ≤ length threads * most_steps
  steps_bound [] h = omega arith
  steps_bound (x ∷ xs) h =
      let first = h 0 x refl in
      let rest = steps_bound xs (λ t. h (suc t)) in
      let sums = sum_by-cons steps_in x xs in
      omega arith

  few_in_all : (threads : List Told) → IsWithinLimits s → length threads ≡ s.slots → AreInRange code s threads → AreListed code s threads → all_steps threads ≤ 2 ^ 25
  few_in_all threads limits n h l =
      let bound = steps_bound threads (λ t told e. few_steps t told (h.each t told e) (l.each t told e)) in
      let few = limits.few_slots in
      omega arith

  -- the same with the number of operations that the steps bound
  record Holds (st : State Told) : Type 0 where
    threads : length st.threads ≡ s.slots
    words : length st.words ≡ length (start_words code s)
    in_range : AreInRange code s st.threads
    listed : AreListed code s st.threads
    sound : AreSound code s (all_steps st.threads) st.words

  holds_after : IsRunnable code → IsWithinLimits s → (st st1 : State Told) (l : Label) → Holds st → stepped (machine code s) st l ≡ Some st1 → Holds st1
  holds_after runnable limits st st1 l h e =
      let x = steps_of (machine code s) st l st1 e in
      let threads_are : st1.threads ≡ slice_set st.threads (label_thread l) x.after = ap (λ (z : State Told). z.threads) x.to in
      let words_are : st1.words ≡ x.words = ap (λ (z : State Told). z.words) x.to in
      let told = outcome_tells code s (label_thread l) st.words x.words (effect_of code s l x.before) x.before x.after (effect_tells code s l x.before) x.leaves in
      let longer = ap length told.0 ∙ length-append x.before.entries (effect_entry (machine code s) st.words (effect_of code s l x.before)) in
      let few = few_in_all st.threads limits h.threads h.in_range h.listed in
      let few_slots = limits.few_slots in
      let threads_len = h.threads in
      let here = slice_get_within st.threads (label_thread l) x.before x.stands in
      let more = set_steps st.threads (label_thread l) x.before x.after (length (effect_entry (machine code s) st.words (effect_of code s l x.before))) x.stands (omega (arith, longer)) in
      let adds = ap length (adds_of (machine code s) st l st1 x) in
      let sums = ap all_steps threads_are in
      record {
        threads = ap length threads_are ∙ length-set st.threads (label_thread l) x.after ∙ h.threads;
        words = ap length words_are ∙ outcome_words st.words x.words (effect_of code s l x.before) x.after x.leaves ∙ h.words;
        in_range = threads_in_range code s st st1 l e h.in_range;
        listed = threads_listed code s st st1 l e h.in_range h.listed;
        sound = sound_more code s (all_steps st.threads + length (added (machine code s) st l)) (all_steps st1.threads) st1.words (omega arith) (sound_step code s runnable limits (all_steps st.threads) st st1 l (omega arith) (omega arith) e h.sound);
      }

  pub start_length : (k n : ℕ) → length (start_threads_from code s k n) ≡ n
  start_length k zero = refl
  start_length k (suc n) = ap suc (start_length (k + 1) n)

  holds_at_start : IsWithinLimits s → Holds (start_state code s)
  holds_at_start limits = record {
    threads = start_length 0 s.slots;
    words = refl;
    in_range = start_all_in_range code s;
    listed = start_listed code s;
    sound = sound_more code s 0 (all_steps (start_state code s).threads) (start_words code s) (omega arith) (sound_start code s limits);
  }

  pub kept : IsRunnable code → IsWithinLimits s → (st : State Told) → Reaches (machine code s) (start_state code s) st → IsKept code s st
  kept runnable limits st reached =
      let h = kept_along (machine code s) Holds (λ a b l. holds_after runnable limits a b l) reached.0 (start_state code s) st reached.1 (holds_at_start limits) in
      let few = few_in_all st.threads limits h.threads h.in_range h.listed in
      record {
        threads = h.threads;
        words = h.words;
        in_range = h.in_range;
        logged = λ t told e. let l = h.listed.each t told e in record { few_endings = few_endings code s t told.thread (endings_in told.entries) l.ends; allowed = l.allowed };
        sound = sound_more code s (all_steps st.threads) most_operations st.words few h.sound;
      }
