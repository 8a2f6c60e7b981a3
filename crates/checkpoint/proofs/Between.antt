-- What holds of a state between two entries of a walk: threads that aren't in their first function are bare, and none stands
-- between the load of its argument and its Mark.
use Rattle.std.proofs.Common.{◌≡◌, ◌≢◌, ℕ, zero, suc, ◌-◌, ◌⊎◌, inl, inr, ◌&&◌, not, Bool, true, false, if◌then◌else◌, nat_lt, List, [], ◌∷◌, Option, Some, None, refl, sym, ap, subst, ◌∙◌, ℤ, pos}
use Rattle.std.specs.Prelude.{slice_get, slice_set, option_and_then}
use Rattle.std.proofs.lemmas.Bool.{cases_eq, true≢false, and_parts}
use Rattle.std.proofs.lemmas.Option.{same_Some}
use Rattle.rr_base.proofs.Lists.{slice_get-set_other, slice_get-set_same}
use Rattle.sync_objects.specs.Setup.{SetupView}
use Rattle.sync_objects.specs.Names.{name_of}
use Rattle.sync_objects.specs.Advance.{advanced}
use Rattle.sync_objects.specs.declared.entry.Entry.{Entry}
use Rattle.sync_objects.specs.declared.entry.Noted.{Noted}
use Rattle.sync_objects.specs.declared.object.ObjId.{ObjId}
use Rattle.sync_objects.specs.declared.object.ObjId.TheVariants as object
use Rattle.sync_objects.specs.declared.operation.Op.{Op}
use Rattle.sync_objects.specs.declared.operation.Op.TheVariants as op
use Rattle.flow_code.specs.declared.code.Code.{Code}
use Rattle.flow_code.specs.declared.thread.Phase.{Phase}
use Rattle.flow_code.specs.declared.thread.Phase.TheVariants as phase
use Rattle.word_semantics.specs.declared.event.Action.{Action}
use Rattle.word_semantics.specs.declared.event.Action.TheVariants as action
use Rattle.word_semantics.specs.Values.{number}
use Rattle.flow_code.specs.Threads.{Thread}
use Rattle.flow_code.specs.Next.{stepped as thread_stepped, action_at, holds, gave_up, stopped, slot_closed, has_ended}
use Rattle.word_semantics.specs.Limits.{most_entries, most_revokes}
use Rattle.flow_code.specs.Settle.{settled}
use Rattle.thread_interpreter.specs.Parts.{is_loaded}
use Rattle.thread_interpreter.specs.Pieces.{piece_next}
use Rattle.core_run.specs.Words.{cells_of, has_object}
use Rattle.core_run.specs.Machine.{Told, entry_of, operation, action_effect, may_revoke, may_stop, may_close, effect_of, machine, start_told, start_state}
use Rattle.core_run.specs.Walks.{walk_of}
use Rattle.core_run.proofs.Lawful.{effect_go, effect_revoke, effect_stop, effect_close, change_is}
use Rattle.core_run.proofs.ThreadRanges.{start_thread_is}
use Rattle.run_theory.specs.Labels.{Label, Go, Revoke, Stop, Close, label_thread, label_of}
use Rattle.run_theory.specs.Same.{same_entry}
use Rattle.run_theory.specs.Steps.{Becomes, Leaves, Effect, Refused, Marks, Loads, Stores, Operates, State, outcome, stepped, effect_entry, added, count_of}
use Rattle.run_theory.specs.Walk.{if_nothing, if_only, alone, made, part}
use Rattle.run_theory.proofs.Apart.{thread_of_label}
use Rattle.run_theory.proofs.Swap.{load_inv, change_inv, steps_of, adds_of}
use Rattle.checkpoint.proofs.Lives.{IsBare, LivesIn, Lives, step_lives, settled_lives, gave_up_lives, operated_entered}

-- no thread is between its first load and its Mark
abbrev pub HasEntered : Thread → Type 0
HasEntered th = is_loaded th.phase ≡ false

-- ---- what an effect leads to

-- the thread after an access or a mark is an A, after an operation a B
abbrev pub Leads : (A B : Thread → Type 0) → Effect Told → Type 0
Leads A B Refused = Unit {0}
Leads A B (Marks q) = A q.thread
Leads A B (Loads c next) = (w : ℕ) → A (next w).thread
Leads A B (Stores c w q) = A q.thread
Leads A B (Operates e change) = (old new : ℕ) (answer : ℤ) (q : Told) → change old ≡ Becomes new answer q → B q.thread

module _ (code : Code) (s : SetupView) (A B : Thread → Type 0) where
  if_leads : (b : Bool) (e : Effect Told) → (b ≡ true → Leads A B e) → Leads A B (if b then e else Refused)
  if_leads true e h = h refl
  if_leads false e h = tt

  operation_leads : (t : ℕ) (told : Told) (o : Op) (obj : ObjId) (printed : List (List ℕ)) (after : ℤ → Thread) → ((answer : ℤ) → B (after answer)) → Leads A B (operation code s t told o obj printed after)
  operation_leads t told o obj printed after h =
      if_leads (has_object code s obj) _ (λ has old new answer q e.
      subst (λ (z : Told). B z.thread) (sym (change_is told (entry_of t told.thread (name_of o) obj) printed after old (advanced o t old) new answer q e).1) (h answer))

  action_leads : (t : ℕ) (told : Told) (th : Thread) (a : Action) → action_at code s t th ≡ a → ((answer : ℤ) → A (thread_stepped code s t th answer)) → ((o : Op) (obj : ObjId) (answer : ℤ) → action_at code s t th ≡ action.Operate o obj → B (thread_stepped code s t th answer)) → Leads A B (action_effect code s t told th a)
  action_leads t told th action.Quiet e f g = tt
  action_leads t told th (action.Load c) e f g = if_leads (nat_lt c (cells_of code s)) _ (λ lt w. f (number w))
  action_leads t told th (action.Store c w) e f g = if_leads (nat_lt c (cells_of code s)) _ (λ lt. f (pos 0))
  action_leads t told th action.Mark e f g = f (pos 0)
  action_leads t told th (action.Operate o obj) e f g = operation_leads t (record told { thread = th }) o obj (piece_next code th o) (λ answer. thread_stepped code s t th answer) (λ answer. g o obj answer e)
  action_leads t told th action.Ended e f g = tt

  -- the thread that an operation leaves
  operates : (words after : List ℕ) (e : Effect Told) (x : Noted) (q : Told) → Leads A B e → effect_entry (machine code s) words e ≡ x ∷ [] → outcome (machine code s) words e ≡ Leaves after q → B q.thread
  operates words after Refused x q h a e = cc
  operates words after (Marks th) x q h a e = cc
  operates words after (Loads c next) x q h a e = cc
  operates words after (Stores c w th) x q h a e = cc
  operates words after (Operates y change) x q h a e =
      let p = (machine code s).place y.obj in
      let i = change_inv words p change (slice_get words p) after q e in
      h i.0 i.1 i.2 q i.4

-- the thread that any effect leaves
leaves_one : (code : Code) (s : SetupView) (A : Thread → Type 0) (words after : List ℕ) (e : Effect Told) (q : Told) → Leads A A e → outcome (machine code s) words e ≡ Leaves after q → A q.thread
leaves_one code s A words after Refused q h e = cc
leaves_one code s A words after (Marks th) q h e = let same : th ≡ q = cc in subst (λ (z : Told). A z.thread) same h
leaves_one code s A words after (Loads c next) q h e =
    let i = load_inv words next (slice_get words c) after q e in
    subst (λ (z : Told). A z.thread) (sym i.3) (h i.0)
leaves_one code s A words after (Stores c w th) q h e =
    let i = change_inv words c (λ v. Becomes w (pos 0) th) (slice_get words c) after q e in
    let becomes : Becomes w (pos 0) th ≡ Becomes i.1 i.2 q = i.4 in
    let same : th ≡ q = cc in
    subst (λ (z : Told). A z.thread) same h
leaves_one code s A words after (Operates x change) q h e =
    let p = (machine code s).place x.obj in
    let i = change_inv words p change (slice_get words p) after q e in
    h i.0 i.1 i.2 q i.4

-- who may lose a stripe holds it
holds_one : (th : Thread) (lock stripe : ℕ) → may_revoke th lock stripe ≡ true → holds th.stripes lock stripe ≡ true
holds_one th lock stripe e =
    let a = and_parts (not (has_ended th.phase) && holds th.stripes lock stripe && nat_lt th.entries most_entries) (nat_lt th.revokes most_revokes) e in
    let b = and_parts (not (has_ended th.phase) && holds th.stripes lock stripe) (nat_lt th.entries most_entries) a.0 in
    (and_parts (not (has_ended th.phase)) (holds th.stripes lock stripe) b.0).1

module _ (code : Code) (s : SetupView) where
  -- each label keeps a bare thread bare until its first function
  effect_lives : (l : Label) (told : Told) → Lives told.thread → Leads Lives Lives (effect_of code s l told)
  effect_lives (Go t) told h =
      subst (Leads Lives Lives) (sym (effect_go code s t told))
      (action_leads code s Lives Lives t told (settled code s t told.thread) (action_at code s t (settled code s t told.thread)) refl
      (λ answer. step_lives code s t (settled code s t told.thread) answer (settled_lives code s t told.thread h))
      (λ o obj answer e. step_lives code s t (settled code s t told.thread) answer (settled_lives code s t told.thread h)))
  effect_lives (Revoke t lock stripe) told h =
      subst (Leads Lives Lives) (sym (effect_revoke code s t lock stripe told))
      (if_leads code s Lives Lives (may_revoke told.thread lock stripe) _ (λ m. operation_leads code s Lives Lives t told op.Revoke (object.Weak lock stripe) [] (λ answer. gave_up told.thread lock stripe) (λ answer. gave_up_lives code s t told.thread lock stripe h)))
  effect_lives (Stop t) told h =
      subst (Leads Lives Lives) (sym (effect_stop code s t told))
      (if_leads code s Lives Lives (may_stop told.thread) _ (λ m. operation_leads code s Lives Lives t told op.Stop object.Halt [] (λ answer. stopped told.thread) (λ answer. tt)))
  effect_lives (Close t) told h =
      subst (Leads Lives Lives) (sym (effect_close code s t told))
      (if_leads code s Lives Lives (may_close told.thread) _ (λ m. operation_leads code s Lives Lives t told op.Close (object.Slot t) [] (λ answer. slot_closed told.thread) (λ answer. tt)))

  abbrev Any : Thread → Type 0
  Any th = Unit {0}

  -- a stripe can't be revoked from a thread that has none
  revoked_entered : (p : Phase) (th : Thread) (lock stripe : ℕ) → LivesIn p th → th.phase ≡ p → may_revoke th lock stripe ≡ true → is_loaded th.phase ≡ false
  revoked_entered (phase.Loaded f w) th lock stripe h e m = absurd (true≢false (sym (holds_one th lock stripe m) ∙ ap (λ xs. holds xs lock stripe) h.stripes))
  revoked_entered phase.Fresh th lock stripe h e m = ap is_loaded e
  revoked_entered (phase.Begun f) th lock stripe h e m = ap is_loaded e
  revoked_entered phase.Running th lock stripe h e m = ap is_loaded e
  revoked_entered phase.Ended th lock stripe h e m = ap is_loaded e
  revoked_entered phase.Halted th lock stripe h e m = ap is_loaded e
  revoked_entered (phase.Trapped kind line) th lock stripe h e m = ap is_loaded e
  revoked_entered phase.Stopped th lock stripe h e m = ap is_loaded e
  revoked_entered phase.Closed th lock stripe h e m = ap is_loaded e

  -- after an operation no thread is between its first load and its Mark
  effect_enters : (l : Label) (told : Told) → Lives told.thread → Leads Any HasEntered (effect_of code s l told)
  effect_enters (Go t) told h =
      subst (Leads Any HasEntered) (sym (effect_go code s t told))
      (action_leads code s Any HasEntered t told (settled code s t told.thread) (action_at code s t (settled code s t told.thread)) refl
      (λ answer. tt)
      (λ o obj answer e. operated_entered code s t (settled code s t told.thread) o obj answer (settled_lives code s t told.thread h) e))
  effect_enters (Revoke t lock stripe) told h =
      subst (Leads Any HasEntered) (sym (effect_revoke code s t lock stripe told))
      (if_leads code s Any HasEntered (may_revoke told.thread lock stripe) _ (λ m. operation_leads code s Any HasEntered t told op.Revoke (object.Weak lock stripe) [] (λ answer. gave_up told.thread lock stripe) (λ answer. revoked_entered told.thread.phase told.thread lock stripe h refl m)))
  effect_enters (Stop t) told h =
      subst (Leads Any HasEntered) (sym (effect_stop code s t told))
      (if_leads code s Any HasEntered (may_stop told.thread) _ (λ m. operation_leads code s Any HasEntered t told op.Stop object.Halt [] (λ answer. stopped told.thread) (λ answer. refl)))
  effect_enters (Close t) told h =
      subst (Leads Any HasEntered) (sym (effect_close code s t told))
      (if_leads code s Any HasEntered (may_close told.thread) _ (λ m. operation_leads code s Any HasEntered t told op.Close (object.Slot t) [] (λ answer. slot_closed told.thread) (λ answer. refl)))

  -- ---- states

  abbrev pub AllOf : (Thread → Type 0) → State Told → Type 0
  AllOf P st = (t : ℕ) (told : Told) → slice_get st.threads t ≡ Some told → P told.thread

  all_set : (P : Thread → Type 0) (threads : List Told) (t : ℕ) (before after : Told) → slice_get threads t ≡ Some before → P after.thread → (u : ℕ) (told : Told) → (u ≢ t → slice_get threads u ≡ Some told → P told.thread) → slice_get (slice_set threads t after) u ≡ Some told → P told.thread
  all_set P threads t before after at h u told k e = by (cases_eq u t)
    where
      by : (u ≡ t) ⊎ (u ≢ t) → P told.thread
      by (inl same) = subst (λ (z : Told). P z.thread) (same_Some after told (sym (slice_get-set_same threads t after before at) ∙ ap (slice_get (slice_set threads t after)) (sym same) ∙ e)) h
      by (inr ne) = k ne (sym (slice_get-set_other threads t u after ne) ∙ e)

  all_live : (st st1 : State Told) (l : Label) → stepped (machine code s) st l ≡ Some st1 → AllOf Lives st → AllOf Lives st1
  all_live st st1 l e k u told at =
      let x = steps_of (machine code s) st l st1 e in
      all_set Lives st.threads (label_thread l) x.before x.after x.stands
      (leaves_one code s Lives st.words x.words (effect_of code s l x.before) x.after (effect_lives l x.before (k (label_thread l) x.before x.stands)) x.leaves)
      u told (λ ne f. k u told f) (sym (ap (λ (z : State Told). slice_get z.threads u) x.to) ∙ at)

  -- a step of one thread leaves the others
  others_stay : (st st1 : State Told) (l : Label) (u : ℕ) → stepped (machine code s) st l ≡ Some st1 → u ≢ label_thread l → slice_get st1.threads u ≡ slice_get st.threads u
  others_stay st st1 l u e ne =
      let x = steps_of (machine code s) st l st1 e in
      ap (λ (z : State Told). slice_get z.threads u) x.to ∙ slice_get-set_other st.threads (label_thread l) u x.after ne

  -- between two entries
  pub record IsBetween (st : State Told) : Type 0 where
    pub live : AllOf Lives st
    pub entered : AllOf HasEntered st

  -- within the part of an entry of thread t
  record IsWithin (t : ℕ) (st : State Told) : Type 0 where
    live : AllOf Lives st
    entered : (u : ℕ) (told : Told) → u ≢ t → slice_get st.threads u ≡ Some told → HasEntered told.thread

  alone_within : (n t : ℕ) (st st1 : State Told) → alone (machine code s) n t st ≡ Some st1 → IsWithin t st → IsWithin t st1
  alone_within zero t st st1 e h = subst (IsWithin t) (same_Some st st1 e) h
  alone_within (suc n) t st st1 e h = go (added (machine code s) st (Go t)) (stepped (machine code s) st (Go t)) refl e (λ mid. alone_within n t mid st1)
    where
      next : (mid : State Told) → stepped (machine code s) st (Go t) ≡ Some mid → IsWithin t mid
      next mid f = record { live = all_live st mid (Go t) f h.live; entered = λ u told ne at. h.entered u told ne (sym (others_stay st mid (Go t) u f ne) ∙ at) }

      go : (xs : List Noted) (o : Option (State Told)) → stepped (machine code s) st (Go t) ≡ o → if_nothing xs (option_and_then (alone (machine code s) n t) o) ≡ Some st1 → ((mid : State Told) → alone (machine code s) n t mid ≡ Some st1 → IsWithin t mid → IsWithin t st1) → IsWithin t st1
      go [] None f g again = cc
      go [] (Some mid) f g again = again mid g (next mid f)
      go (x ∷ xs) o f g again = cc

  made_between : (e : Entry) (st st1 : State Told) → made (machine code s) e st ≡ Some st1 → IsWithin e.thread st → IsBetween st1
  made_between e st st1 g h = go (added (machine code s) st (label_of e)) refl g
    where
      same_thread : e.thread ≡ label_thread (label_of e)
      same_thread = thread_of_label e (label_of e) refl

      step : (x : Noted) → added (machine code s) st (label_of e) ≡ x ∷ [] → stepped (machine code s) st (label_of e) ≡ Some st1 → IsBetween st1
      step x a f =
          let y = steps_of (machine code s) st (label_of e) st1 f in
          record {
            live = all_live st st1 (label_of e) f h.live;
            entered = λ u told at.
                all_set HasEntered st.threads (label_thread (label_of e)) y.before y.after y.stands
                (operates code s Any HasEntered st.words y.words (effect_of code s (label_of e) y.before) x y.after (effect_enters (label_of e) y.before (h.live (label_thread (label_of e)) y.before y.stands)) (sym (adds_of (machine code s) st (label_of e) st1 y) ∙ a) y.leaves)
                u told (λ ne k. h.entered u told (λ same. ne (same ∙ same_thread)) k) (sym (ap (λ (z : State Told). slice_get z.threads u) y.to) ∙ at);
          }

      choice : (b : Bool) (x : Noted) → added (machine code s) st (label_of e) ≡ x ∷ [] → (if b then stepped (machine code s) st (label_of e) else None) ≡ Some st1 → IsBetween st1
      choice true x a f = step x a f
      choice false x a f = cc

      go : (xs : List Noted) → added (machine code s) st (label_of e) ≡ xs → if_only e xs (stepped (machine code s) st (label_of e)) ≡ Some st1 → IsBetween st1
      go [] a f = cc
      go (x ∷ []) a f = choice (same_entry x.entry e) x a f
      go (x ∷ y ∷ xs) a f = cc

  part_between : (e : Entry) (st st1 : State Told) → part (machine code s) e st ≡ Some st1 → IsBetween st → IsBetween st1
  part_between e st st1 g h = go (alone (machine code s) (e.count - count_of (machine code s) st e.thread) e.thread st) refl g
    where
      go : (o : Option (State Told)) → alone (machine code s) (e.count - count_of (machine code s) st e.thread) e.thread st ≡ o → option_and_then (made (machine code s) e) o ≡ Some st1 → IsBetween st1
      go None a f = cc
      go (Some mid) a f = made_between e mid st1 f (alone_within (e.count - count_of (machine code s) st e.thread) e.thread st mid a (record { live = h.live; entered = λ u told ne at. h.entered u told at }))

  pub walk_between : (es : List Entry) (st st1 : State Told) → walk_of code s es st ≡ Some st1 → IsBetween st → IsBetween st1
  walk_between [] st st1 g h = subst IsBetween (same_Some st st1 g) h
  walk_between (e ∷ es) st st1 g h = go (part (machine code s) e st) refl g (λ mid. walk_between es mid st1)
    where
      go : (o : Option (State Told)) → part (machine code s) e st ≡ o → option_and_then (walk_of code s es) o ≡ Some st1 → ((mid : State Told) → walk_of code s es mid ≡ Some st1 → IsBetween mid → IsBetween st1) → IsBetween st1
      go None a f again = cc
      go (Some mid) a f again = again mid f (part_between e st mid a h)

  start_phase_lives : (t : ℕ) → Lives (start_told code s t).thread × HasEntered (start_told code s t).thread
  start_phase_lives zero = (record { top = refl; below = refl; stripes = refl; regions = refl }, refl)
  start_phase_lives (suc t) = (record { top = refl; below = refl; stripes = refl; regions = refl }, refl)

  pub start_between : IsBetween (start_state code s)
  start_between = record {
    live = λ t told e. subst (λ (z : Told). Lives z.thread) (sym (start_thread_is code s t told e)) (start_phase_lives t).0;
    entered = λ t told e. subst (λ (z : Told). HasEntered z.thread) (sym (start_thread_is code s t told e)) (start_phase_lives t).1;
  }
