-- The numbers of all threads are in range at the start, and stay so.
use Rattle.std.proofs.Common.{◌≡◌, ℕ, zero, suc, ◌+◌, ◌<◌, ⊎_elim, ◌&&◌, not, Bool, true, false, if◌then◌else◌, nat_lt, List, [], Some, refl, sym, ap, subst, ◌∙◌, ℤ, pos, arith}
use Rattle.std.specs.Prelude.{slice_get, slice_set}
use Rattle.std.proofs.lemmas.Bool.{ltb-true, and_parts, cases_eq, not-true}
use Rattle.std.proofs.lemmas.Option.{same_Some}
use Rattle.rr_base.proofs.Lists.{slice_get-set_other, slice_get-set_same}
use Rattle.sync_objects.specs.Setup.{SetupView}
use Rattle.sync_objects.specs.Advance.{advanced}
use Rattle.sync_objects.specs.declared.object.ObjId.{ObjId}
use Rattle.sync_objects.specs.declared.object.ObjId.TheVariants as object
use Rattle.sync_objects.specs.declared.operation.Op.{Op}
use Rattle.sync_objects.specs.declared.operation.Op.TheVariants as op
use Rattle.sync_objects.specs.Names.{name_of}
use Rattle.flow_code.specs.declared.code.Code.{Code}
use Rattle.word_semantics.specs.declared.event.Action.{Action}
use Rattle.word_semantics.specs.declared.event.Action.TheVariants as action
use Rattle.word_semantics.specs.Values.{number}
use Rattle.flow_code.specs.Threads.{Thread}
use Rattle.flow_code.specs.Next.{holds, stepped as thread_stepped, action_at, gave_up, stopped, slot_closed, has_ended, has_begun}
use Rattle.word_semantics.specs.Limits.{most_entries, most_revokes}
use Rattle.flow_code.specs.Settle.{settled}
use Rattle.flow_code.specs.Ranges.{InRange}
use Rattle.flow_code.proofs.Ranges.{stepped_in_range, settled_in_range, gave_up_in_range, stopped_in_range, shut_in_range}
use Rattle.core_run.specs.Words.{cells_of, has_object}
use Rattle.thread_interpreter.specs.Pieces.{piece_next}
use Rattle.core_run.specs.Machine.{Told, entry_of, operation, action_effect, may_revoke, may_stop, may_close, effect_of, machine, start_told, start_threads_from, start_state}
use Rattle.core_run.specs.Kept.{AreInRange}
use Rattle.thread_interpreter.proofs.StartRanges.{start_in_range}
use Rattle.core_run.proofs.Lawful.{effect_go, effect_revoke, effect_stop, effect_close, change_is}
use Rattle.run_theory.specs.Labels.{Label, Go, Revoke, Stop, Close, label_thread}
use Rattle.run_theory.specs.Steps.{Becomes, Leaves, Effect, Refused, Marks, Loads, Stores, Operates, State, outcome, stepped}
use Rattle.run_theory.proofs.Swap.{load_inv, change_inv, steps_of}

-- the thread with this number in the list from another one on
start_threads : (code : Code) (s : SetupView) (k n t : ℕ) (told : Told) → slice_get (start_threads_from code s k n) t ≡ Some told → told ≡ start_told code s (k + t)
start_threads code s k zero t told e = cc
start_threads code s k (suc n) zero told e = let k_is : k ≡ k + 0 = omega arith in sym (same_Some (start_told code s k) told e) ∙ ap (start_told code s) k_is
start_threads code s k (suc n) (suc t) told e = let k_is : k + 1 + t ≡ k + suc t = omega arith in start_threads code s (k + 1) n t told e ∙ ap (start_told code s) k_is

pub start_thread_is : (code : Code) (s : SetupView) (t : ℕ) (told : Told) → slice_get (start_state code s).threads t ≡ Some told → told ≡ start_told code s t
start_thread_is code s t told e = let t_is : 0 + t ≡ t = omega arith in start_threads code s 0 s.slots t told e ∙ ap (start_told code s) t_is

pub start_all_in_range : (code : Code) (s : SetupView) → AreInRange code s (start_state code s).threads
start_all_in_range code s = record { each = λ t told e. subst (λ (z : Told). InRange code s 0 t z.thread) (sym (start_thread_is code s t told e)) (start_in_range code s 0 t) }

-- what may be done to a thread by others

revoke_parts : (th : Thread) (lock stripe : ℕ) → may_revoke th lock stripe ≡ true → (th.entries < most_entries) × (th.revokes < most_revokes)
revoke_parts th lock stripe e =
    let a = and_parts (not (has_ended th.phase) && holds th.stripes lock stripe && nat_lt th.entries most_entries) (nat_lt th.revokes most_revokes) e in
    let b = and_parts (not (has_ended th.phase) && holds th.stripes lock stripe) (nat_lt th.entries most_entries) a.0 in
    (ltb-true th.entries most_entries b.1, ltb-true th.revokes most_revokes a.1)

pub revoked_in_range : (code : Code) (s : SetupView) (t : ℕ) (th : Thread) (lock stripe : ℕ) → may_revoke th lock stripe ≡ true → InRange code s 0 t th → InRange code s 0 t (gave_up th lock stripe)
revoked_in_range code s t th lock stripe e h = let p = revoke_parts th lock stripe e in gave_up_in_range code s 0 t th lock stripe p.0 p.1 h

pub revoke_lives : (th : Thread) (lock stripe : ℕ) → may_revoke th lock stripe ≡ true → has_ended th.phase ≡ false
revoke_lives th lock stripe e =
    let a = and_parts (not (has_ended th.phase) && holds th.stripes lock stripe && nat_lt th.entries most_entries) (nat_lt th.revokes most_revokes) e in
    let b = and_parts (not (has_ended th.phase) && holds th.stripes lock stripe) (nat_lt th.entries most_entries) a.0 in
    not-true (has_ended th.phase) (and_parts (not (has_ended th.phase)) (holds th.stripes lock stripe) b.0).0

pub stop_lives : (th : Thread) → may_stop th ≡ true → has_ended th.phase ≡ false
stop_lives th e = not-true (has_ended th.phase) (and_parts (has_begun th.phase) (not (has_ended th.phase)) e).1

pub close_lives : (th : Thread) → may_close th ≡ true → has_ended th.phase ≡ false
close_lives th e = not-true (has_ended th.phase) (and_parts (not (has_begun th.phase)) (not (has_ended th.phase)) e).1

module _ (code : Code) (s : SetupView) where
  -- an effect leaves the thread's numbers in range
  abbrev KeepsRange : ℕ → Effect Told → Type 0
  KeepsRange t Refused = Unit {0}
  KeepsRange t (Marks told) = InRange code s 0 t told.thread
  KeepsRange t (Loads c next) = (w : ℕ) → InRange code s 0 t (next w).thread
  KeepsRange t (Stores c w told) = InRange code s 0 t told.thread
  KeepsRange t (Operates e change) = (old new : ℕ) (answer : ℤ) (told : Told) → change old ≡ Becomes new answer told → InRange code s 0 t told.thread

  if_keeps : (t : ℕ) (b : Bool) (e : Effect Told) → (b ≡ true → KeepsRange t e) → KeepsRange t (if b then e else Refused)
  if_keeps t true e h = h refl
  if_keeps t false e h = tt

  operation_keeps : (t : ℕ) (told : Told) (o : Op) (obj : ObjId) (printed : List (List ℕ)) (after : ℤ → Thread) → ((answer : ℤ) → InRange code s 0 t (after answer)) → KeepsRange t (operation code s t told o obj printed after)
  operation_keeps t told o obj printed after h =
      if_keeps t (has_object code s obj) _ (λ has old new answer q e.
      subst (λ (z : Told). InRange code s 0 t z.thread) (sym (change_is told (entry_of t told.thread (name_of o) obj) printed after old (advanced o t old) new answer q e).1) (h answer))

  action_keeps : (t : ℕ) (told : Told) (st : Thread) (a : Action) → InRange code s 0 t st → KeepsRange t (action_effect code s t told st a)
  action_keeps t told st action.Quiet h = tt
  action_keeps t told st (action.Load c) h = if_keeps t (nat_lt c (cells_of code s)) _ (λ lt w. stepped_in_range code s 0 t st (number w) h)
  action_keeps t told st (action.Store c w) h = if_keeps t (nat_lt c (cells_of code s)) _ (λ lt. stepped_in_range code s 0 t st (pos 0) h)
  action_keeps t told st action.Mark h = stepped_in_range code s 0 t st (pos 0) h
  action_keeps t told st (action.Operate o obj) h = operation_keeps t (record told { thread = st }) o obj (piece_next code st o) (λ answer. thread_stepped code s t st answer) (λ answer. stepped_in_range code s 0 t st answer h)
  action_keeps t told st action.Ended h = tt

  effect_keeps : (l : Label) (told : Told) → InRange code s 0 (label_thread l) told.thread → KeepsRange (label_thread l) (effect_of code s l told)
  effect_keeps (Go t) told h = subst (KeepsRange t) (sym (effect_go code s t told)) (action_keeps t told (settled code s t told.thread) (action_at code s t (settled code s t told.thread)) (settled_in_range code s 0 t told.thread h))
  effect_keeps (Revoke t lock stripe) told h =
      subst (KeepsRange t) (sym (effect_revoke code s t lock stripe told)) (if_keeps t (may_revoke told.thread lock stripe) _ (λ m. operation_keeps t told op.Revoke (object.Weak lock stripe) [] (λ answer. gave_up told.thread lock stripe) (λ answer. revoked_in_range code s t told.thread lock stripe m h)))
  effect_keeps (Stop t) told h =
      subst (KeepsRange t) (sym (effect_stop code s t told)) (if_keeps t (may_stop told.thread) _ (λ m. operation_keeps t told op.Stop object.Halt [] (λ answer. stopped told.thread) (λ answer. stopped_in_range code s 0 t told.thread (stop_lives told.thread m) h)))
  effect_keeps (Close t) told h =
      subst (KeepsRange t) (sym (effect_close code s t told)) (if_keeps t (may_close told.thread) _ (λ m. operation_keeps t told op.Close (object.Slot t) [] (λ answer. slot_closed told.thread) (λ answer. shut_in_range code s 0 t told.thread (close_lives told.thread m) h)))

  outcome_keeps : (t : ℕ) (words after : List ℕ) (e : Effect Told) (told : Told) → KeepsRange t e → outcome (machine code s) words e ≡ Leaves after told → InRange code s 0 t told.thread
  outcome_keeps t words after Refused told h e = cc
  outcome_keeps t words after (Marks th) told h e = let same : th ≡ told = cc in subst (λ (z : Told). InRange code s 0 t z.thread) same h
  outcome_keeps t words after (Loads c next) told h e =
      let i = load_inv words next (slice_get words c) after told e in
      subst (λ (z : Told). InRange code s 0 t z.thread) (sym i.3) (h i.0)
  outcome_keeps t words after (Stores c w th) told h e =
      let i = change_inv words c (λ v. Becomes w (pos 0) th) (slice_get words c) after told e in
      let becomes : Becomes w (pos 0) th ≡ Becomes i.1 i.2 told = i.4 in
      let same : th ≡ told = cc in
      subst (λ (z : Told). InRange code s 0 t z.thread) same h
  outcome_keeps t words after (Operates x change) told h e =
      let p = (machine code s).place x.obj in
      let i = change_inv words p change (slice_get words p) after told e in
      h i.0 i.1 i.2 told i.4

  set_in_range : (threads : List Told) (t : ℕ) (before after : Told) → slice_get threads t ≡ Some before → InRange code s 0 t after.thread → AreInRange code s threads → AreInRange code s (slice_set threads t after)
  set_in_range threads t before after at h k = record {
    each = λ u told e. ⊎_elim
        (λ same. subst (λ n. InRange code s 0 n told.thread) (sym same) (subst (λ (z : Told). InRange code s 0 t z.thread) (same_Some after told (sym (slice_get-set_same threads t after before at) ∙ ap (slice_get (slice_set threads t after)) (sym same) ∙ e)) h))
        (λ ne. k.each u told (sym (slice_get-set_other threads t u after ne) ∙ e))
        (cases_eq u t);
  }

  -- each step keeps the numbers of all threads in range
  pub threads_in_range : (st st1 : State Told) (l : Label) → stepped (machine code s) st l ≡ Some st1 → AreInRange code s st.threads → AreInRange code s st1.threads
  threads_in_range st st1 l e k =
      let x = steps_of (machine code s) st l st1 e in
      let h = k.each (label_thread l) x.before x.stands in
      subst (AreInRange code s) (sym (ap (λ (z : State Told). z.threads) x.to))
      (set_in_range st.threads (label_thread l) x.before x.after x.stands (outcome_keeps (label_thread l) st.words x.words (effect_of code s l x.before) x.after (effect_keeps l x.before h) x.leaves) k)
