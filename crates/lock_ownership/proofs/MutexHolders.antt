-- The holder of a mutex is the one that the operations of a run on it made.
use Rattle.std.proofs.Common.{◌≡◌, ℕ, inl, inr, Bool, true, false, if◌then◌else◌, List, [], ◌∷◌, Option, Some, None, refl, sym, ap, ◌∙◌, ℤ}
use Rattle.std.specs.Prelude.{option_and_then}
use Rattle.std.proofs.lemmas.Option.{same_Some, get_or_from_slice_get}
use Rattle.sync_objects.specs.Setup.{SetupView, IsWithinLimits}
use Rattle.sync_objects.specs.Names.{name_of, kind_of}
use Rattle.sync_objects.specs.States.{LockState, Free}
use Rattle.sync_objects.specs.Start.{start_word, packed_start}
use Rattle.sync_objects.specs.Packing.{shown, lock_of}
use Rattle.sync_objects.specs.Words.{state_of, word_of}
use Rattle.sync_objects.specs.Table.{Moves, first_row, rows}
use Rattle.sync_objects.specs.declared.kind.ObjKind.TheVariants as kind
use Rattle.sync_objects.specs.declared.entry.Noted.{Noted}
use Rattle.sync_objects.specs.declared.object.ObjId.{ObjId}
use Rattle.sync_objects.specs.declared.object.ObjId.TheVariants as object
use Rattle.sync_objects.specs.declared.operation.Op.{Op}
use Rattle.sync_objects.specs.declared.operation.Op.TheVariants as op
use Rattle.sync_objects.specs.declared.operation.OpName.TheVariants as name
use Rattle.sync_objects.proofs.RowsOf.{lock_rows, try_lock_rows, unlock_rows, mutex_init_rows}
use Rattle.sync_objects.proofs.Starts.{starts-Mutex}
use Rattle.flow_code.specs.declared.code.Code.{Code}
use Rattle.flow_code.specs.Settle.{IsRunnable}
use Rattle.core_run.specs.Histories.{run_of, IsReachable}
use Rattle.core_run.specs.Words.{cells_of, has_object, place_of, start_words}
use Rattle.core_run.specs.Machine.{Told, machine, start_state}
use Rattle.core_run.proofs.Beginnings.{start_word_at}
use Rattle.run_theory.specs.Labels.{Label, label_thread}
use Rattle.run_theory.specs.Ordered.{Event, Marked, Loaded, Stored, Did, event_of}
use Rattle.run_theory.specs.Same.{same_object}
use Rattle.run_theory.specs.Steps.{State, stepped, run}
use Rattle.run_theory.proofs.Kept.{reaches_step}
use Rattle.run_theory.proofs.SameEntries.{same_object-true, same_object-refl}
use Rattle.lock_ownership.specs.Holders.{word_of_object, holder, held_after, held_after_event, held_on, held_along}
use Rattle.lock_ownership.proofs.Stepping.{has_stepped}
use Rattle.lock_ownership.proofs.ObjectSteps.{ObjectStep, object_step}

abbrev lock_in : ℕ → LockState
lock_in w = lock_of (state_of w)

mutex_after : (o : Op) (t : ℕ) (answer : ℤ) (w v : ℕ) → kind_of (name_of o) ≡ kind.Mutex → first_row (rows o t) (shown (kind_of (name_of o)) w) ≡ Moves (shown (kind_of (name_of o)) v) answer → lock_in v ≡ held_after (name_of o) answer t (lock_in w)
mutex_after op.Lock t answer w v k e =
    elim (lock_rows t (lock_in w) (lock_in v) answer e) [
      | inl r ↦ r.1
      | inr r ↦ r.1
    ]
mutex_after op.TryLock t answer w v k e =
    elim (try_lock_rows t (lock_in w) (lock_in v) answer e) [
      | inl r ↦ r.1 ∙ sym (ap (λ a. held_after name.TryLock a t (lock_in w)) r.2)
      | inr r ↦ r.1 ∙ sym (ap (λ a. held_after name.TryLock a t (lock_in w)) r.2)
    ]
mutex_after op.Unlock t answer w v k e =
    elim (unlock_rows t (lock_in w) (lock_in v) answer e) [
      | inl r ↦ r.1 ∙ sym (ap (λ a. held_after name.Unlock a t (lock_in w)) r.2)
      | inr r ↦ r.1 ∙ sym (ap (λ a. held_after name.Unlock a t (lock_in w)) r.2)
    ]
mutex_after op.MutexInit t answer w v k e =
    elim (mutex_init_rows t (lock_in w) (lock_in v) answer e) [
      | inl r ↦ r.1
      | inr r ↦ r.1
    ]
mutex_after _ t answer w v k e = cc

-- at the start no mutex and no stripe is held
pub start_free : (code : Code) (s : SetupView) (o : ObjId) → IsWithinLimits s → has_object code s o ≡ true → packed_start o ≡ 0 → holder code s o (start_state code s) ≡ Free
start_free code s o limits has none =
    ap lock_in (get_or_from_slice_get (start_words code s) (place_of (cells_of code s) o) (start_word o) 0 (start_word_at code s o limits has) ∙ ap (word_of 0) none)

module _ (code : Code) (s : SetupView) (run_ok : IsRunnable code) (limits : IsWithinLimits s) (cell : ℕ) (has : has_object code s (object.Mutex cell) ≡ true) where
  abbrev this : ObjId
  this = object.Mutex cell

  alone_event : (ev : Option Event) (before : LockState) → ((t : ℕ) (x : Noted) (word : ℕ) (answer : ℤ) → ev ≡ Some (Did t x word answer) → x.entry.obj ≡ this → ⊥) → held_after_event this before ev ≡ before
  alone_event None before h = refl
  alone_event (Some (Marked t)) before h = refl
  alone_event (Some (Loaded t c)) before h = refl
  alone_event (Some (Stored t c)) before h = refl
  alone_event (Some (Did t x word answer)) before h = by (same_object x.entry.obj this) refl
    where
      by : (b : Bool) → same_object x.entry.obj this ≡ b → (if b then held_after x.entry.op answer t before else before) ≡ before
      by true e = absurd (h t x word answer refl (same_object-true x.entry.obj this e))
      by false e = refl

  pub holder_step : (st st1 : State Told) (l : Label) → ObjectStep code s this st l st1 → holder code s this st1 ≡ held_after_event this (holder code s this st) (event_of (machine code s) st l)
  holder_step st st1 l (inl a) = ap lock_in a.same ∙ sym (alone_event (event_of (machine code s) st l) (holder code s this st) a.none)
  holder_step st st1 l (inr x) =
      mutex_after x.operation (label_thread l) x.answer (word_of_object code s this st) (word_of_object code s this st1) x.fits x.row
      ∙ ap (λ n. held_after n x.answer (label_thread l) (holder code s this st)) (sym x.named)
      ∙ sym (ap (λ b. if b then held_after x.noted.entry.op x.answer (label_thread l) (holder code s this st) else holder code s this st) (ap (λ o. same_object o this) x.on ∙ same_object-refl this))
      ∙ sym (ap (held_after_event this (holder code s this st)) x.happens)

  holder_run : (ls : List Label) (st end : State Told) → IsReachable code s st → run (machine code s) ls st ≡ Some end → holder code s this end ≡ held_along code s this ls st (holder code s this st)
  holder_run [] st end reached e = ap (holder code s this) (sym (same_Some st end e))
  holder_run (l ∷ ls) st end reached e = by (stepped (machine code s) st l) refl e (λ mid r q. holder_run ls mid end r q)
    where
      by : (o : Option (State Told)) → stepped (machine code s) st l ≡ o → option_and_then (run (machine code s) ls) o ≡ Some end →
          ((mid : State Told) → IsReachable code s mid → run (machine code s) ls mid ≡ Some end → holder code s this end ≡ held_along code s this ls mid (holder code s this mid)) →
          holder code s this end ≡ held_on (held_along code s this ls) o (held_after_event this (holder code s this st) (event_of (machine code s) st l))
      by None f q again = cc
      by (Some mid) f q again =
          again mid (reaches_step (machine code s) (start_state code s) st mid l reached f) q
          ∙ ap (held_along code s this ls mid) (holder_step st mid l (object_step code s this run_ok limits has st mid l reached (has_stepped code s st mid l f)))

  pub holder_is : (labels : List Label) (end : State Told) → run_of code s labels ≡ Some end → holder code s this end ≡ held_along code s this labels (start_state code s) Free
  holder_is labels end e =
      holder_run labels (start_state code s) end ([], refl) e
      ∙ ap (held_along code s this labels (start_state code s)) (start_free code s this limits has (starts-Mutex cell))
