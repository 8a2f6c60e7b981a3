-- The words of objects stay sound, and each step raises their numbers by at most one.
use Rattle.std.proofs.Common.{◌≡◌, ◌≢◌, ℕ, ◌+◌, ◌-◌, ◌^◌, ◌<◌, ◌≤◌, ⊎_elim, Bool, true, false, if◌then◌else◌, nat_lt, List, [], length, Some, refl, sym, ap, subst, ◌∙◌, ℤ, pos, arith}
use Rattle.std.specs.Prelude.{slice_get, slice_set}
use Rattle.std.proofs.lemmas.Bool.{ltb-true}
use Rattle.std.proofs.lemmas.Option.{same_Some}
use Rattle.rr_base.proofs.Lists.{slice_get-set_other, slice_get-set_same}
use Rattle.sync_objects.specs.Setup.{SetupView, IsWithinLimits}
use Rattle.sync_objects.specs.Names.{name_of, object_kind, Fits}
use Rattle.sync_objects.specs.Sound.{IsSoundWord, IsInRange}
use Rattle.sync_objects.specs.Start.{start_word}
use Rattle.sync_objects.specs.Words.{number_of}
use Rattle.sync_objects.specs.Advance.{Advances, advanced}
use Rattle.sync_objects.specs.declared.object.ObjId.{ObjId}
use Rattle.sync_objects.specs.declared.object.ObjId.TheVariants as object
use Rattle.sync_objects.specs.declared.operation.Op.{Op}
use Rattle.sync_objects.specs.declared.operation.Op.TheVariants as op
use Rattle.sync_objects.proofs.Soundness.{start_is_sound, number_rises, keeps_sound}
use Rattle.flow_code.specs.declared.code.Code.{Code}
use Rattle.word_semantics.specs.declared.event.Action.{Action}
use Rattle.word_semantics.specs.declared.event.Action.TheVariants as action
use Rattle.flow_code.specs.Threads.{Thread}
use Rattle.flow_code.specs.Next.{stepped as thread_stepped, action_at, gave_up, stopped, slot_closed}
use Rattle.flow_code.specs.Settle.{settled, IsRunnable}
use Rattle.flow_code.proofs.Asked.{own_action}
use Rattle.core_run.specs.Words.{cells_of, has_object, place_of, start_words}
use Rattle.thread_interpreter.specs.Pieces.{piece_next}
use Rattle.core_run.specs.Machine.{Told, entry_of, operation, action_effect, may_revoke, may_stop, may_close, effect_of, machine}
use Rattle.core_run.specs.Kept.{AreSound}
use Rattle.core_run.proofs.Places.{place_past, place_apart}
use Rattle.core_run.proofs.Beginnings.{start_word_at, start_number}
use Rattle.core_run.proofs.Lawful.{effect_go, effect_revoke, effect_stop, effect_close, change_is}
use Rattle.run_theory.specs.Labels.{Label, Go, Revoke, Stop, Close, label_thread}
use Rattle.run_theory.specs.Steps.{Change, Becomes, Leaves, Effect, Refused, Marks, Loads, Stores, Operates, State, outcome, stepped, effect_entry, added}
use Rattle.run_theory.proofs.SameEntries.{object_cases}
use Rattle.run_theory.proofs.Swap.{load_inv, change_inv, steps_of, adds_of}

module _ (code : Code) (s : SetupView) where
  -- where an object has its word
  abbrev place : ObjId → ℕ
  place o = place_of (cells_of code s) o

  pub sound_more : (m n : ℕ) (words : List ℕ) → m ≤ n → AreSound code s m words → AreSound code s n words
  sound_more m n words le h = record { each = λ o w has at. let k = h.each o w has at in let few = k.1 in (k.0, omega arith) }

  -- at the start
  pub sound_start : IsWithinLimits s → AreSound code s 0 (start_words code s)
  sound_start limits = record {
    each = λ o w has at.
        let word_is : start_word o ≡ w = same_Some (start_word o) w (sym (start_word_at code s o limits has) ∙ at) in
        let zero_number = start_number o in
        (subst (IsSoundWord (object_kind o)) word_is (start_is_sound o), subst (λ z. number_of z ≤ 0) word_is (omega arith));
  }

  -- after a store
  pub sound_store : (n : ℕ) (words : List ℕ) (c w : ℕ) → c < cells_of code s → AreSound code s n words → AreSound code s n (slice_set words c w)
  sound_store n words c w lt h = record {
    each = λ o v has at.
        let following = place_past (cells_of code s) o in
        h.each o v has (sym (slice_get-set_other words c (place o) w (λ e. absurd (omega arith))) ∙ at);
  }

  -- after the object's word has become another sound one, by one operation more
  pub sound_change : (n : ℕ) (words : List ℕ) (obj : ObjId) (old new : ℕ) → IsWithinLimits s → has_object code s obj ≡ true → slice_get words (place obj) ≡ Some old → IsSoundWord (object_kind obj) new → number_of new ≡ number_of old + 1 → AreSound code s n words → AreSound code s (n + 1) (slice_set words (place obj) new)
  sound_change n words obj old new limits has_obj at_obj sound number h = record {
    each = λ o v has at. ⊎_elim (λ e. same o v e at) (λ ne. other o v ne has at) (object_cases o obj);
  }
    where
      same : (o : ObjId) (v : ℕ) → o ≡ obj → slice_get (slice_set words (place obj) new) (place o) ≡ Some v → IsSoundWord (object_kind o) v × (number_of v ≤ n + 1)
      same o v e at =
          let word_is : new ≡ v = same_Some new v (sym (slice_get-set_same words (place obj) new old at_obj) ∙ ap (λ z. slice_get (slice_set words (place obj) new) (place z)) (sym e) ∙ at) in
          let before = (h.each obj old has_obj at_obj).1 in
          (subst (λ z. IsSoundWord (object_kind z) v) (sym e) (subst (IsSoundWord (object_kind obj)) word_is sound), subst (λ z. number_of z ≤ n + 1) word_is (omega arith))

      other : (o : ObjId) (v : ℕ) → o ≢ obj → has_object code s o ≡ true → slice_get (slice_set words (place obj) new) (place o) ≡ Some v → IsSoundWord (object_kind o) v × (number_of v ≤ n + 1)
      other o v ne has at =
          let apart : place o ≢ place obj = λ e. ne (place_apart code s o obj limits has has_obj e) in
          let k = h.each o v has (sym (slice_get-set_other words (place obj) (place o) new apart) ∙ at) in
          let few = k.1 in
          (k.0, omega arith)

  -- an operation by a thread on an object that it fits
  pub sound_operation : (n : ℕ) (words : List ℕ) (o : Op) (obj : ObjId) (t old new : ℕ) (answer : ℤ) → IsWithinLimits s → t < 16 → n < 2 ^ 32 - 1 → Fits (name_of o) obj → IsInRange o → has_object code s obj ≡ true → slice_get words (place obj) ≡ Some old → advanced o t old ≡ Advances new answer → AreSound code s n words → AreSound code s (n + 1) (slice_set words (place obj) new)
  sound_operation n words o obj t old new answer limits small few fits range has at moves h =
      let k = h.each obj old has at in
      let low = k.1 in
      sound_change n words obj old new limits has at
      (subst (λ z. IsSoundWord z new) fits (keeps_sound o t old new answer small range (omega arith) (subst (λ z. IsSoundWord z old) (sym fits) k.0) moves))
      (number_rises o t old new answer moves)
      h

  -- what an effect does to sound words: an operation is one of a thread on an object that it fits
  pub record Operation (obj : ObjId) (change : ℕ → Change Told) : Type 0 where
    pub o : Op
    pub t : ℕ
    pub small : t < 16
    pub fits : Fits (name_of o) obj
    pub range : IsInRange o
    pub has : has_object code s obj ≡ true
    pub row : (old new : ℕ) (answer : ℤ) (after : Told) → change old ≡ Becomes new answer after → advanced o t old ≡ Advances new answer

  abbrev IsSoundEffect : Effect Told → Type 0
  IsSoundEffect Refused = Unit {0}
  IsSoundEffect (Marks th) = Unit {0}
  IsSoundEffect (Loads c next) = Unit {0}
  IsSoundEffect (Stores c w th) = c < cells_of code s
  IsSoundEffect (Operates e change) = Operation e.obj change

  if_sound : (b : Bool) (e : Effect Told) → (b ≡ true → IsSoundEffect e) → IsSoundEffect (if b then e else Refused)
  if_sound true e h = h refl
  if_sound false e h = tt

  operation_is_sound : (t : ℕ) (told : Told) (o : Op) (obj : ObjId) (printed : List (List ℕ)) (after : ℤ → Thread) → t < 16 → Fits (name_of o) obj → IsInRange o → IsSoundEffect (operation code s t told o obj printed after)
  operation_is_sound t told o obj printed after small fits range =
      if_sound (has_object code s obj) _ (λ has. record {
        o = o;
        t = t;
        small = small;
        fits = fits;
        range = range;
        has = has;
        row = λ old new answer q e. (change_is told (entry_of t told.thread (name_of o) obj) printed after old (advanced o t old) new answer q e).0;
      })

  action_is_sound : IsRunnable code → IsWithinLimits s → (t : ℕ) (told : Told) (st : Thread) (a : Action) → t < 16 → action_at code s t st ≡ a → IsSoundEffect (action_effect code s t told st a)
  action_is_sound runnable limits t told st action.Quiet small e = tt
  action_is_sound runnable limits t told st (action.Load c) small e = if_sound (nat_lt c (cells_of code s)) _ (λ lt. tt)
  action_is_sound runnable limits t told st (action.Store c w) small e = if_sound (nat_lt c (cells_of code s)) _ (λ lt. ltb-true c (cells_of code s) lt)
  action_is_sound runnable limits t told st action.Mark small e = tt
  action_is_sound runnable limits t told st (action.Operate o obj) small e =
      let own = own_action code s t st o obj runnable e in
      operation_is_sound t (record told { thread = st }) o obj (piece_next code st o) (λ answer. thread_stepped code s t st answer) small own.fits (own.range limits)
  action_is_sound runnable limits t told st action.Ended small e = tt

  effect_is_sound : IsRunnable code → IsWithinLimits s → (l : Label) (told : Told) → label_thread l < 16 → IsSoundEffect (effect_of code s l told)
  effect_is_sound runnable limits (Go t) told small =
      subst IsSoundEffect (sym (effect_go code s t told)) (action_is_sound runnable limits t told (settled code s t told.thread) (action_at code s t (settled code s t told.thread)) small refl)
  effect_is_sound runnable limits (Revoke t lock stripe) told small =
      subst IsSoundEffect (sym (effect_revoke code s t lock stripe told)) (if_sound (may_revoke told.thread lock stripe) _ (λ m. operation_is_sound t told op.Revoke (object.Weak lock stripe) [] (λ answer. gave_up told.thread lock stripe) small refl tt))
  effect_is_sound runnable limits (Stop t) told small =
      subst IsSoundEffect (sym (effect_stop code s t told)) (if_sound (may_stop told.thread) _ (λ m. operation_is_sound t told op.Stop object.Halt [] (λ answer. stopped told.thread) small refl tt))
  effect_is_sound runnable limits (Close t) told small =
      subst IsSoundEffect (sym (effect_close code s t told)) (if_sound (may_close told.thread) _ (λ m. operation_is_sound t told op.Close (object.Slot t) [] (λ answer. slot_closed told.thread) small refl tt))

  -- an operation is one more, and nothing else is
  outcome_sound : IsWithinLimits s → (n : ℕ) (words after : List ℕ) (e : Effect Told) (told : Told) → n < 2 ^ 32 - 1 → IsSoundEffect e → outcome (machine code s) words e ≡ Leaves after told → AreSound code s n words → AreSound code s (n + length (effect_entry (machine code s) words e)) after
  outcome_sound limits n words after Refused told few h e k = cc
  outcome_sound limits n words after (Marks th) told few h e k = let same : words ≡ after = cc in subst (AreSound code s (n + 0)) same (sound_more n (n + 0) words (omega arith) k)
  outcome_sound limits n words after (Loads c next) told few h e k =
      let i = load_inv words next (slice_get words c) after told e in
      subst (AreSound code s (n + 0)) (sym i.2) (sound_more n (n + 0) words (omega arith) k)
  outcome_sound limits n words after (Stores c w th) told few h e k =
      let i = change_inv words c (λ v. Becomes w (pos 0) th) (slice_get words c) after told e in
      subst (AreSound code s (n + 0)) (sym i.5) (sound_more n (n + 0) (slice_set words c i.1) (omega arith) (sound_store n words c i.1 h k))
  outcome_sound limits n words after (Operates e change) told few h q k =
      let i = change_inv words (place e.obj) change (slice_get words (place e.obj)) after told q in
      subst (AreSound code s (n + 1)) (sym i.5) (sound_operation n words h.o e.obj h.t i.0 i.1 i.2 limits h.small few h.fits h.range h.has i.3 (h.row i.0 i.1 i.2 told i.4) k)

  -- each step keeps the words of objects sound
  pub sound_step : IsRunnable code → IsWithinLimits s → (n : ℕ) (st st1 : State Told) (l : Label) → n < 2 ^ 32 - 1 → label_thread l < 16 → stepped (machine code s) st l ≡ Some st1 → AreSound code s n st.words → AreSound code s (n + length (added (machine code s) st l)) st1.words
  sound_step runnable limits n st st1 l few small e k =
      let x = steps_of (machine code s) st l st1 e in
      let adds = adds_of (machine code s) st l st1 x in
      subst (λ a. AreSound code s (n + length a) st1.words) (sym adds)
      (subst (AreSound code s (n + length (effect_entry (machine code s) st.words (effect_of code s l x.before)))) (sym (ap (λ (z : State Told). z.words) x.to))
      (outcome_sound limits n st.words x.words (effect_of code s l x.before) x.after few (effect_is_sound runnable limits l x.before small) x.leaves k))
