-- In each state that is reached each number is drawn once, and a slot is started only by the thread that has drawn it.
use Rattle.std.proofs.Common.{◌≡◌, ℕ, zero, suc, ◌<◌, ◌≤◌, ◌⊎◌, inl, inr, ⊎_elim, true, false, [], Some, None, refl, sym, ap, subst, ◌∙◌, ℤ, arith}
use Rattle.std.specs.Prelude.{slice_get}
use Rattle.std.proofs.lemmas.Bool.{true≢false, cases_Bool, lt-ltb}
use Rattle.std.proofs.lemmas.Option.{slice_get_within, get_or_from_slice_get}
use Rattle.sync_objects.specs.Setup.{SetupView, IsWithinLimits}
use Rattle.sync_objects.specs.Names.{name_of, kind_of, object_kind}
use Rattle.sync_objects.specs.Packing.{threads_of, shown}
use Rattle.sync_objects.specs.Table.{Moves, first_row, rows}
use Rattle.sync_objects.specs.Start.{start_word, packed_start}
use Rattle.sync_objects.specs.States.{Idle, Begun, Started}
use Rattle.sync_objects.specs.Words.{state_of, word_of}
use Rattle.sync_objects.specs.declared.object.ObjId.{ObjId}
use Rattle.sync_objects.specs.declared.object.ObjId.TheVariants as object
use Rattle.sync_objects.specs.declared.operation.Op.{Op}
use Rattle.sync_objects.specs.declared.operation.Op.TheVariants as op
use Rattle.sync_objects.proofs.RowsOf.{begin_rows}
use Rattle.sync_objects.proofs.Starts.{starts-first_slot, starts-other_slot, starts-Threads}
use Rattle.word_semantics.specs.declared.event.Action.{Action}
use Rattle.word_semantics.specs.declared.event.Action.TheVariants as action
use Rattle.word_semantics.specs.declared.event.Due.{Due}
use Rattle.word_semantics.specs.declared.event.Due.TheVariants as due
use Rattle.flow_code.specs.declared.code.Code.{Code}
use Rattle.flow_code.specs.declared.thread.Phase.TheVariants as phase
use Rattle.flow_code.specs.Next.{action_of, due_of}
use Rattle.flow_code.specs.Settle.{IsRunnable, settled}
use Rattle.flow_code.specs.Threads.{Thread}
use Rattle.flow_code.proofs.Counts.{IsAccessAction, settled_keeps_all}
use Rattle.flow_code.proofs.Settle.{action_is}
use Rattle.core_run.specs.Histories.{IsReachable}
use Rattle.core_run.specs.Machine.{Told, machine, start_state}
use Rattle.thread_interpreter.specs.Starts.{start_phase, start_thread}
use Rattle.core_run.specs.Words.{cells_of, has_object, place_of, start_words}
use Rattle.core_run.proofs.Beginnings.{start_word_at}
use Rattle.core_run.proofs.Reached.{kept}
use Rattle.core_run.proofs.ThreadRanges.{start_thread_is}
use Rattle.run_theory.specs.Labels.{Label, label_thread}
use Rattle.run_theory.specs.Ordered.{event_of}
use Rattle.run_theory.specs.Steps.{State}
use Rattle.run_theory.proofs.Kept.{kept_along, reaches_step}
use Rattle.lock_ownership.specs.Holders.{word_of_object}
use Rattle.run_theory.proofs.SameEntries.{object_cases}
use Rattle.lock_ownership.proofs.ObjectSteps.{made_fits, row_here, alone_by_access, elsewhere}
use Rattle.lock_ownership.proofs.Stepping.{ComesTo, Makes, by_itself, by_revoke, by_stop, by_close, IsOperationStep, StepKind, HasStepped, has_stepped}
use Rattle.points_to_sound.specs.Creations.{Creation, creation, was_started, slot_state, drawn_in, drawn, IsCreating, HandsOver}
use Rattle.points_to_sound.proofs.Beginning.{step_begins}
use Rattle.points_to_sound.proofs.Creating.{Creates, none, stays, draws, hands}
use Rattle.points_to_sound.proofs.Handing.{slot_shown, SlotMove, starts, goes, slot_answer, operates_by, comes_creates, SlotStep, slot_step, thread_within, drawn_more, CreatedBy, before, drawn_now, creation_step}
use Rattle.points_to_sound.proofs.Layouts.{set_got}

module _ (code : Code) (s : SetupView) (run : IsRunnable code) (limits : IsWithinLimits s) where
  module _ (st st1 : State Told) (l : Label) (reached : IsReachable code s st) (h : HasStepped code s st l st1) (k : HandsOver code s st) where
    abbrev t : ℕ
    t = label_thread l

    -- a thread after the step is that of the label, or as it was
    either_thread : (u : ℕ) (told : Told) → slice_get st1.threads u ≡ Some told → ((u ≡ t → ⊥) × (slice_get st.threads u ≡ Some told)) ⊎ ((u ≡ t) × (h.after ≡ told))
    either_thread u told e = set_got st.threads t u h.after told (subst (λ ths. slice_get ths u ≡ Some told) h.threads e)

    abbrev step : (j : ℕ) → j < s.slots → SlotStep code s run limits st st1 l reached h j
    step j lt = slot_step code s run limits st st1 l reached h j lt

    more : drawn code s st ≤ drawn code s st1
    more = drawn_more code s run limits st st1 l reached h

    same_slot : (x y : Creation) → Some x ≡ Some y → x.slot ≡ y.slot
    same_slot x y e = cc

    -- ---- the slots of creations

    -- a slot that no thread starts stays idle
    idle_stays : (j : ℕ) → j < s.slots → was_started (slot_state code s st j) ≡ false → ((x : Creation) → creation code h.before.thread ≡ Some x → x.handed ≡ true → j ≡ x.slot → ⊥) → was_started (slot_state code s st1 j) ≡ false
    idle_stays j lt n not = ⊎_elim (λ w. let y = (step j lt).newly n w in absurd (not (record { slot = j; function = y.0; handed = true }) y.1 refl refl)) (λ w. w) (cases_Bool (was_started (slot_state code s st1 j)))

    other_creating : (u : ℕ) (told : Told) (x : Creation) → (u ≡ t → ⊥) → slice_get st.threads u ≡ Some told → creation code told.thread ≡ Some x → IsCreating code s st1 x
    other_creating u told x ne at e =
        let c = k.creating u told x at e in
        record {
          few = let f = c.few in let m = more in omega arith;
          within = c.within;
          idle = idle_stays x.slot c.within c.idle (λ y f n same. ne (k.one u t told h.before x y at h.stands e f same));
        }

    never : {P : Type 0} (y : Creation) → None ≡ Some y → P
    never y e = cc

    -- a step after which its thread has a creation starts no slot
    no_start : (d : Due) (answer : ℤ) (y : Creation) (f : ℕ) (obj : ObjId) → Creates code s (settled code s t h.before.thread) h.after.thread d answer → creation code h.after.thread ≡ Some y → d ≡ due.Operate (op.Start f) obj → ⊥
    no_start d answer y f obj (none n) e is = never y (sym n ∙ e)
    no_start d answer y f obj (stays n ns) e is = ns f obj is
    no_start d answer y f obj (draws g a ne n) e is = cc
    no_start d answer y f obj (hands j g w was a n) e is = cc

    trap_start : (o : Op) (f : ℕ) → o ≡ op.Start f → o ≡ op.TrapHere → ⊥
    trap_start o f e g = cc

    own_idle : (j : ℕ) (y : Creation) → j < s.slots → creation code h.after.thread ≡ Some y → was_started (slot_state code s st j) ≡ false → was_started (slot_state code s st1 j) ≡ false
    own_idle j y lt e n = by_kind h.kind
      where
        started : (x : IsOperationStep code s st.words st1.words (event_of (machine code s) st l) l h.before.thread h.after.thread) (f : ℕ) → x.op ≡ op.Start f → Makes code s l h.before.thread x.op x.obj x.answer h.after.thread → ⊥
        started x f o (by_itself c) =
            ⊎_elim
            (λ d. no_start (due_of code s t (settled code s t h.before.thread)) x.answer y f x.obj (comes_creates code s run limits st st1 l reached h (action.Operate x.op x.obj) x.answer c (λ z. cc)) e (d ∙ ap (λ p. due.Operate p x.obj) o))
            (λ z. trap_start x.op f o z)
            (operates_by (due_of code s t (settled code s t h.before.thread)) x.op x.obj (sym (action_is code s t (settled code s t h.before.thread)) ∙ c.comes))
        started x f o (by_revoke lock stripe m a b c) = let z = sym o ∙ a in cc
        started x f o (by_stop m a b c) = let z = sym o ∙ a in cc
        started x f o (by_close m a b c) = let z = sym o ∙ a in cc

        by_row : (x : IsOperationStep code s st.words st1.words (event_of (machine code s) st l) l h.before.thread h.after.thread) → SlotMove x.op (slot_state code s st j) (slot_state code s st1 j) x.answer → was_started (slot_state code s st1 j) ≡ false
        by_row x (starts f o b a) = absurd (started x f o x.makes)
        by_row x (goes w g) = w ∙ n

        by_kind : StepKind code s st.words st1.words (event_of (machine code s) st l) l h.before.thread h.after.thread → was_started (slot_state code s st1 j) ≡ false
        by_kind (inl a) = ap (λ w. was_started (slot_shown w)) (alone_by_access code s (object.Slot j) run limits (lt-ltb j s.slots lt) st st1 l reached h a).same ∙ n
        by_kind (inr x) =
            ⊎_elim
            (λ same. by_row x (slot_answer x.op t x.answer (word_of_object code s (object.Slot j) st) (word_of_object code s (object.Slot j) st1)
            ((made_fits code s l h.before.thread x.op x.obj x.answer h.after.thread run limits x.makes).0 ∙ ap object_kind same)
            (row_here code s (object.Slot j) run limits (lt-ltb j s.slots lt) st st1 l reached h x same)))
            (λ ne. ap (λ w. was_started (slot_shown w)) (elsewhere code s (object.Slot j) run limits (lt-ltb j s.slots lt) st st1 l reached h x ne).same ∙ n)
            (object_cases x.obj (object.Slot j))

    own_creating : (y : Creation) → creation code h.after.thread ≡ Some y → CreatedBy code s run limits st st1 l reached h y → IsCreating code s st1 y
    own_creating y e (before x was same) =
        let c = k.creating t h.before x h.stands was in
        let m = more in
        record {
          few = let f = c.few in let q = same in omega arith;
          within = subst (λ j. j < s.slots) (sym same) c.within;
          idle = own_idle y.slot y (subst (λ j. j < s.slots) (sym same) c.within) e (subst (λ j. was_started (slot_state code s st j) ≡ false) (sym same) c.idle);
        }
    own_creating y e (drawn_now slot within now fresh) =
        record {
          few = omega arith;
          within = within;
          idle = own_idle y.slot y within e (⊎_elim (λ w. let lt = k.started y.slot within w in absurd (omega arith)) (λ w. w) (cases_Bool (was_started (slot_state code s st y.slot))));
        }

    -- the step's thread and another create different ones
    own_other : (u : ℕ) (told : Told) (x y : Creation) → slice_get st.threads u ≡ Some told → creation code told.thread ≡ Some x → y.slot ≡ x.slot → CreatedBy code s run limits st st1 l reached h y → t ≡ u
    own_other u told x y at e same (before z was is) = k.one t u h.before told z x h.stands at was e (sym is ∙ same)
    own_other u told x y at e same (drawn_now slot within now fresh) = let c = (k.creating u told x at e).few in absurd (omega arith)

    own_step : (y : Creation) → creation code h.after.thread ≡ Some y → CreatedBy code s run limits st st1 l reached h y
    own_step y e = creation_step code s run limits st st1 l reached h y e

    -- ---- begun threads

    quiet_phase : (settled code s t h.before.thread).phase ≡ h.before.thread.phase
    quiet_phase = (settled_keeps_all code s t h.before.thread).phase

    was_begun : (f : ℕ) → h.before.thread.phase ≡ phase.Begun f → was_started (slot_state code s st1 t) ≡ true
    was_begun f e = (step t (thread_within code s run limits st st1 l reached h)).still (k.begun t f h.before h.stands e)

    own_begun : (f : ℕ) → h.after.thread.phase ≡ phase.Begun f → was_started (slot_state code s st1 t) ≡ true
    own_begun f e = by_kind h.kind
      where
        lt : t < s.slots
        lt = thread_within code s run limits st st1 l reached h

        no_operation : (a : Action) → IsAccessAction a → a ≡ action.Operate op.Begin (object.Slot t) → ⊥
        no_operation a i z = subst IsAccessAction z i

        begins : (a : Action) (answer : ℤ) → ComesTo code s l h.before.thread a answer h.after.thread → (a ≡ action.Operate op.Begin (object.Slot t) → was_started (slot_state code s st1 t) ≡ true) → was_started (slot_state code s st1 t) ≡ true
        begins a answer c g =
            ⊎_elim
            (λ p. was_begun f (sym quiet_phase ∙ p))
            (λ b. g (sym c.comes ∙ action_is code s t (settled code s t h.before.thread) ∙ ap action_of b.begins))
            (step_begins code s t (settled code s t h.before.thread) answer f (sym (ap (λ (z : Thread). z.phase) c.after) ∙ e))

        same_op : (o p : Op) (a b : ObjId) → action.Operate o a ≡ action.Operate p b → (o ≡ p) × (a ≡ b)
        same_op o p a b z = (cc, cc)

        by_row : (x : IsOperationStep code s st.words st1.words (event_of (machine code s) st l) l h.before.thread h.after.thread) → x.op ≡ op.Begin → x.obj ≡ object.Slot t → was_started (slot_state code s st1 t) ≡ true
        by_row x o same =
            let row = row_here code s (object.Slot t) run limits (lt-ltb t s.slots lt) st st1 l reached h x same in
            let b = begin_rows t (slot_state code s st t) (slot_state code s st1 t) x.answer (subst (λ p. first_row (rows p t) (shown (kind_of (name_of p)) (word_of_object code s (object.Slot t) st)) ≡ Moves (shown (kind_of (name_of p)) (word_of_object code s (object.Slot t) st1)) x.answer) o row) in
            (step t lt).still (ap was_started b.1)

        by_makes : (x : IsOperationStep code s st.words st1.words (event_of (machine code s) st l) l h.before.thread h.after.thread) → Makes code s l h.before.thread x.op x.obj x.answer h.after.thread → was_started (slot_state code s st1 t) ≡ true
        by_makes x (by_itself c) = begins (action.Operate x.op x.obj) x.answer c (λ z. let same = same_op x.op op.Begin x.obj (object.Slot t) z in by_row x same.0 same.1)
        by_makes x (by_revoke lock stripe m a b c) = was_begun f (sym (ap (λ (z : Thread). z.phase) c) ∙ e)
        by_makes x (by_stop m a b c) = let z = sym (ap (λ (z : Thread). z.phase) c) ∙ e in cc
        by_makes x (by_close m a b c) = let z = sym (ap (λ (z : Thread). z.phase) c) ∙ e in cc

        by_kind : StepKind code s st.words st1.words (event_of (machine code s) st l) l h.before.thread h.after.thread → was_started (slot_state code s st1 t) ≡ true
        by_kind (inl x) = begins x.action x.answer x.comes (λ z. absurd (no_operation x.action x.is_access z))
        by_kind (inr x) = by_makes x x.makes

    -- ---- all of it

    pub hands_after : HandsOver code s st1
    hands_after = record {
      creating = λ u told x at e. ⊎_elim
          (λ o. other_creating u told x o.0 o.1 e)
          (λ o. let e2 = subst (λ (z : Told). creation code z.thread ≡ Some x) (sym o.1) e in own_creating x e2 (own_step x e2))
          (either_thread u told at);
      one = λ u v told other x y at at2 e e2 same. ⊎_elim
          (λ o. ⊎_elim
          (λ p. k.one u v told other x y o.1 p.1 e e2 same)
          (λ p. let f = subst (λ (z : Told). creation code z.thread ≡ Some y) (sym p.1) e2 in sym (own_other u told x y o.1 e (sym same) (own_step y f)) ∙ sym p.0)
          (either_thread v other at2))
          (λ o. let f = subst (λ (z : Told). creation code z.thread ≡ Some x) (sym o.1) e in
          ⊎_elim
          (λ p. o.0 ∙ own_other v other y x p.1 e2 same (own_step x f))
          (λ p. o.0 ∙ sym p.0)
          (either_thread v other at2))
          (either_thread u told at);
      started = λ j lt w. ⊎_elim
          (λ was. let f = k.started j lt was in let m = more in omega arith)
          (λ was. let y = (step j lt).newly was w in let f = (k.creating t h.before (record { slot = j; function = y.0; handed = true }) h.stands y.1).few in let m = more in omega arith)
          (cases_Bool (was_started (slot_state code s st j)));
      begun = λ u f told at e. ⊎_elim
          (λ o. (step u (within u told o.1)).still (k.begun u f told o.1 e))
          (λ o. subst (λ n. was_started (slot_state code s st1 n) ≡ true) (sym o.0) (own_begun f (subst (λ (z : Told). z.thread.phase ≡ phase.Begun f) (sym o.1) e)))
          (either_thread u told at);
    }
      where
        within : (u : ℕ) (told : Told) → slice_get st.threads u ≡ Some told → u < s.slots
        within u told at = let lt = slice_get_within st.threads u told at in let n = (kept code s run limits st reached).threads in omega arith

  -- ---- the start

  start_state_of : (o : ObjId) (n : ℕ) → has_object code s o ≡ true → packed_start o ≡ n → word_of_object code s o (start_state code s) ≡ word_of 0 n
  start_state_of o n has is = get_or_from_slice_get (start_words code s) (place_of (cells_of code s) o) (start_word o) 0 (start_word_at code s o limits has) ∙ ap (word_of 0) is

  -- no slot is in a started state at the start
  pub not_started_at_start : (k f : ℕ) → k < s.slots → slot_state code s (start_state code s) k ≡ Started f → ⊥
  not_started_at_start zero f lt e = let b = sym (ap slot_shown (start_state_of (object.Slot 0) 2 (lt-ltb 0 s.slots lt) starts-first_slot)) ∙ e in cc
  not_started_at_start (suc k) f lt e = let b = sym (ap slot_shown (start_state_of (object.Slot (suc k)) 0 (lt-ltb (suc k) s.slots lt) (starts-other_slot (suc k) (λ e. absurd (omega arith))))) ∙ e in cc

  hands_at_start : HandsOver code s (start_state code s)
  hands_at_start = record {
    creating = λ t told x at e. no_creation t told x at e;
    one = λ t u told other x y at at2 e e2 same. no_creation t told x at e;
    started = started_slot;
    begun = begun_thread;
  }
    where
      none_fresh : {P : Type 0} (t : ℕ) (x : Creation) → creation code (start_thread code s t) ≡ Some x → P
      none_fresh zero x e = cc
      none_fresh (suc t) x e = cc

      no_creation : {P : Type 0} (t : ℕ) (told : Told) (x : Creation) → slice_get (start_state code s).threads t ≡ Some told → creation code told.thread ≡ Some x → P
      no_creation t told x at e = none_fresh t x (subst (λ (z : Told). creation code z.thread ≡ Some x) (start_thread_is code s t told at) e)

      drawn_one : drawn code s (start_state code s) ≡ 1
      drawn_one = ap (λ w. drawn_in (threads_of (state_of w))) (start_state_of object.Threads 33 refl starts-Threads)

      idle_slot : (k : ℕ) → suc k < s.slots → slot_state code s (start_state code s) (suc k) ≡ Idle
      idle_slot k lt = ap slot_shown (start_state_of (object.Slot (suc k)) 0 (lt-ltb (suc k) s.slots lt) (starts-other_slot (suc k) (λ e. absurd (omega arith))))

      first_slot : 0 < s.slots → slot_state code s (start_state code s) 0 ≡ Begun
      first_slot lt = ap slot_shown (start_state_of (object.Slot 0) 2 (lt-ltb 0 s.slots lt) starts-first_slot)

      started_slot : (k : ℕ) → k < s.slots → was_started (slot_state code s (start_state code s) k) ≡ true → k < drawn code s (start_state code s)
      started_slot zero lt w = let d = drawn_one in omega arith
      started_slot (suc k) lt w = absurd (true≢false (sym w ∙ ap was_started (idle_slot k lt)))

      begun_phase : (t f : ℕ) → start_phase code t ≡ phase.Begun f → was_started (slot_state code s (start_state code s) t) ≡ true
      begun_phase zero f e = let some = limits.some_slot in ap was_started (first_slot (omega arith))
      begun_phase (suc t) f e = cc

      begun_thread : (t f : ℕ) (told : Told) → slice_get (start_state code s).threads t ≡ Some told → told.thread.phase ≡ phase.Begun f → was_started (slot_state code s (start_state code s) t) ≡ true
      begun_thread t f told at e = begun_phase t f (subst (λ (z : Told). z.thread.phase ≡ phase.Begun f) (start_thread_is code s t told at) e)

  -- a state that is reached, with what holds of it
  record Held (st : State Told) : Type 0 where
    reached : IsReachable code s st
    hands : HandsOver code s st

  -- each number is drawn once, and a slot is started only once its number is drawn
  pub hands_over : (st : State Told) → IsReachable code s st → HandsOver code s st
  hands_over st reached =
      (kept_along (machine code s) Held
      (λ a b l h e. record { reached = reaches_step (machine code s) (start_state code s) a b l h.reached e; hands = hands_after a b l h.reached (has_stepped code s a b l e) h.hands })
      reached.0 (start_state code s) st reached.1 (record { reached = ([], refl); hands = hands_at_start })).hands
