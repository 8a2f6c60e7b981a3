-- Each step keeps that a number is drawn once, and that a slot is started only by the thread that has drawn its number.
use Rattle.std.proofs.Common.{◌≡◌, ◌≢◌, ℕ, ◌+◌, ◌<◌, ◌≤◌, nat_lt, ◌⊎◌, inl, inr, ⊎_elim, Bool, true, false, if◌then◌else◌, Some, None, refl, sym, ap, subst, ◌∙◌, ℤ, pos, arith}
use Rattle.std.specs.Prelude.{slice_get}
use Rattle.std.proofs.lemmas.Bool.{true≢false, lt-ltb, ltb-false}
use Rattle.std.proofs.lemmas.Option.{same_Some, slice_get_within}
use Rattle.sync_objects.specs.Setup.{SetupView, IsWithinLimits}
use Rattle.sync_objects.specs.Names.{name_of, kind_of}
use Rattle.sync_objects.specs.Packing.{slot_of, threads_of, shown}
use Rattle.sync_objects.specs.States.{SlotState, Shut, Started, ThreadsState, Counts}
use Rattle.sync_objects.specs.Table.{Moves, first_row, rows}
use Rattle.sync_objects.specs.Words.{state_of}
use Rattle.sync_objects.specs.declared.kind.ObjKind.TheVariants as kind
use Rattle.sync_objects.specs.declared.object.ObjId.{ObjId}
use Rattle.sync_objects.specs.declared.object.ObjId.TheVariants as object
use Rattle.sync_objects.specs.declared.operation.Op.{Op}
use Rattle.sync_objects.specs.declared.operation.Op.TheVariants as op
use Rattle.sync_objects.proofs.RowsOf.{draw_rows, leave_rows, start_rows, begin_rows, end_rows, join_rows, close_rows}
use Rattle.word_semantics.specs.Library.{slot_in}
use Rattle.word_semantics.specs.declared.event.Action.{Action}
use Rattle.word_semantics.specs.declared.event.Action.TheVariants as action
use Rattle.word_semantics.specs.declared.event.Due.{Due}
use Rattle.word_semantics.specs.declared.event.Due.TheVariants as due
use Rattle.flow_code.specs.declared.code.Code.{Code}
use Rattle.flow_code.specs.Next.{action_of, due_of, stopped, slot_closed}
use Rattle.flow_code.specs.Settle.{IsRunnable, settled}
use Rattle.flow_code.specs.Threads.{Thread}
use Rattle.flow_code.proofs.Counts.{IsAccessAction}
use Rattle.flow_code.proofs.Settle.{settled_keeps, action_is}
use Rattle.core_run.specs.Histories.{IsReachable}
use Rattle.core_run.specs.Machine.{Told, machine}
use Rattle.core_run.specs.Words.{has_object}
use Rattle.core_run.proofs.Reached.{kept}
use Rattle.run_theory.specs.Labels.{Label, label_thread}
use Rattle.run_theory.specs.Ordered.{event_of}
use Rattle.run_theory.specs.Steps.{State}
use Rattle.lock_ownership.specs.Holders.{word_of_object}
use Rattle.lock_ownership.proofs.ObjectSteps.{ObjectStep, object_step, row_here}
use Rattle.lock_ownership.proofs.Stepping.{ComesTo, Makes, by_itself, by_revoke, by_stop, by_close, IsAccessStep, IsOperationStep, StepKind, HasStepped}
use Rattle.points_to_sound.specs.Creations.{Creation, creation, was_started, slot_state, drawn_in, drawn}
use Rattle.points_to_sound.proofs.Creating.{Creates, none, stays, draws, hands}
use Rattle.points_to_sound.proofs.CreatingSteps.{step_creates, quiet_creation, due_starts}

-- ---- the table of slots

pub data SlotMove (o : Op) (before after : SlotState) (answer : ℤ) : Type 0 where
  starts : (f : ℕ) → o ≡ op.Start f → was_started before ≡ false → (after ≡ Started f) ⊎ (after ≡ Shut) → SlotMove o before after answer
  goes : was_started after ≡ was_started before → ((f : ℕ) → after ≡ Started f → before ≡ Started f) → SlotMove o before after answer

abbrev pub slot_shown : ℕ → SlotState
slot_shown w = slot_of (state_of w)

started_not : (x : SlotState) (f : ℕ) → was_started x ≡ false → x ≡ Started f → ⊥
started_not x f w e = true≢false (sym (ap was_started e) ∙ w)

slot_goes : (o : Op) (x y : SlotState) (answer : ℤ) → was_started y ≡ was_started x → ((f : ℕ) → y ≡ Started f → ⊥) → SlotMove o x y answer
slot_goes o x y answer e n = goes e (λ f h. absurd (n f h))

pub slot_answer : (o : Op) (t : ℕ) (answer : ℤ) (w v : ℕ) → kind_of (name_of o) ≡ kind.Slot → first_row (rows o t) (shown (kind_of (name_of o)) w) ≡ Moves (shown (kind_of (name_of o)) v) answer → SlotMove o (slot_shown w) (slot_shown v) answer
slot_answer (op.Start f) t answer w v k e =
    elim (start_rows f t (slot_shown w) (slot_shown v) answer e) [
      | inl r ↦ starts f refl (ap was_started r.0) (inl r.1)
      | inr r ↦ starts f refl (ap was_started r.0) (inr r.1)
    ]
slot_answer op.Begin t answer w v k e = let r = begin_rows t (slot_shown w) (slot_shown v) answer e in slot_goes op.Begin (slot_shown w) (slot_shown v) answer (ap was_started r.2 ∙ sym (ap was_started r.1)) (λ f h. let x = sym r.2 ∙ h in cc)
slot_answer op.End t answer w v k e = let r = end_rows t (slot_shown w) (slot_shown v) answer e in slot_goes op.End (slot_shown w) (slot_shown v) answer (ap was_started r.1 ∙ sym (ap was_started r.0)) (λ f h. let x = sym r.1 ∙ h in cc)
slot_answer op.Join t answer w v k e =
    elim (join_rows t (slot_shown w) (slot_shown v) answer e) [
      | inl r ↦ slot_goes op.Join (slot_shown w) (slot_shown v) answer (ap was_started r.1 ∙ sym (ap was_started r.0)) (λ f h. let x = sym r.1 ∙ h in cc)
      | inr r ↦ goes (ap was_started r.1) (λ f h. sym r.1 ∙ h)
    ]
slot_answer op.Close t answer w v k e = let r = close_rows t (slot_shown w) (slot_shown v) answer e in slot_goes op.Close (slot_shown w) (slot_shown v) answer (ap was_started r.1 ∙ sym (ap was_started r.0)) (λ f h. let x = sym r.1 ∙ h in cc)
slot_answer _ t answer w v k e = cc

-- ---- the table of threads

pub record ThreadsMove (o : Op) (before after : ThreadsState) (answer : ℤ) : Type 0 where
  pub more : drawn_in before ≤ drawn_in after
  pub draws : (slots : ℕ) → o ≡ op.Draw slots → (answer ≡ pos 0 → ⊥) → (answer ≡ pos (drawn_in before)) × (drawn_in before < slots) × (drawn_in after ≡ drawn_in before + 1)

draw_answer : (slots t : ℕ) (x y : ThreadsState) (answer : ℤ) → first_row (rows (op.Draw slots) t) x ≡ Moves y answer → ThreadsMove (op.Draw slots) x y answer
draw_answer slots t (Counts d l) y answer e =
    elim (draw_rows slots t d l y answer e) [
      | inl r ↦ let n = ap drawn_in r.1 in record { more = omega arith; draws = λ k same ne. let slots_are : slots ≡ k = cc in (r.2, subst (λ j. d < j) slots_are r.0, n) }
      | inr r ↦ let n = ap drawn_in r.1 in record { more = omega arith; draws = λ k same ne. absurd (ne r.2) }
    ]

leave_answer : (t : ℕ) (x y : ThreadsState) (answer : ℤ) → first_row (rows op.Leave t) x ≡ Moves y answer → ThreadsMove op.Leave x y answer
leave_answer t (Counts d l) y answer e = let r = leave_rows t d l y answer e in let n = ap drawn_in r.1 in record { more = omega arith; draws = λ k same ne. cc }

threads_answer : (o : Op) (t : ℕ) (answer : ℤ) (w v : ℕ) → kind_of (name_of o) ≡ kind.Threads → first_row (rows o t) (shown (kind_of (name_of o)) w) ≡ Moves (shown (kind_of (name_of o)) v) answer → ThreadsMove o (threads_of (state_of w)) (threads_of (state_of v)) answer
threads_answer (op.Draw slots) t answer w v k e = draw_answer slots t (threads_of (state_of w)) (threads_of (state_of v)) answer e
threads_answer op.Leave t answer w v k e = leave_answer t (threads_of (state_of w)) (threads_of (state_of v)) answer e
threads_answer _ t answer w v k e = cc

-- ---- a thread's creation after its quiet steps

pub operates_by : (d : Due) (o : Op) (obj : ObjId) → action_of d ≡ action.Operate o obj → (d ≡ due.Operate o obj) ⊎ (o ≡ op.TrapHere)
operates_by due.Nothing o obj e = cc
operates_by due.Quiet o obj e = cc
operates_by (due.Load c) o obj e = cc
operates_by (due.Store c w) o obj e = cc
operates_by due.Mark o obj e = cc
operates_by (due.Operate p q) o obj e = let f : p ≡ o = cc in let g : q ≡ obj = cc in inl cc
operates_by (due.Trap kind) o obj e = let f : op.TrapHere ≡ o = cc in inr (sym f)

pub ends_at : (d : Due) → action_of d ≢ action.Ended → d ≡ due.Nothing → ⊥
ends_at d ne e = ne (ap action_of e)

module _ (code : Code) (s : SetupView) (t : ℕ) (th : Thread) where
  settled_creation : (creation code (settled code s t th) ≡ None) ⊎ (creation code (settled code s t th) ≡ creation code th)
  settled_creation =
      settled_keeps code s t (λ q. (creation code q ≡ None) ⊎ (creation code q ≡ creation code th))
      (λ q e h. ⊎_elim (λ n. inl n) (λ k. ⊎_elim (λ n. inl (k ∙ n)) (λ n. inr (k ∙ n)) h) (quiet_creation code s t q e))
      th (inr refl)

  pub was_creating : (x : Creation) → creation code (settled code s t th) ≡ Some x → creation code th ≡ Some x
  was_creating x e = ⊎_elim (λ n. absurd (never (sym n ∙ e))) (λ k. sym k ∙ e) settled_creation
    where
      never : {P : Type 0} → None ≡ Some x → P
      never e = cc

-- ---- one step

module _ (code : Code) (s : SetupView) (run : IsRunnable code) (limits : IsWithinLimits s) (st st1 : State Told) (l : Label) (reached : IsReachable code s st) (h : HasStepped code s st l st1) where
  abbrev t : ℕ
  t = label_thread l

  pub has_slot : (k : ℕ) → k < s.slots → has_object code s (object.Slot k) ≡ true
  has_slot k lt = lt-ltb k s.slots lt

  pub thread_within : t < s.slots
  thread_within = let within = slice_get_within st.threads t h.before h.stands in let n = (kept code s run limits st reached).threads in omega arith

  -- what becomes of a slot
  pub record SlotStep (k : ℕ) : Type 0 where
    pub still : was_started (slot_state code s st k) ≡ true → was_started (slot_state code s st1 k) ≡ true
    pub newly : was_started (slot_state code s st k) ≡ false → was_started (slot_state code s st1 k) ≡ true → (f : ℕ) × (creation code h.before.thread ≡ Some (record { slot = k; function = f; handed = true })) × ((slot_state code s st1 k ≡ Started f) ⊎ (slot_state code s st1 k ≡ Shut))
    pub before : (f : ℕ) → slot_state code s st1 k ≡ Started f → (slot_state code s st k ≡ Started f) ⊎ ((was_started (slot_state code s st k) ≡ false) × (was_started (slot_state code s st1 k) ≡ true))

  starts_by : (k f : ℕ) (answer : ℤ) (b q : Told) → slice_get st.threads t ≡ Some b → Makes code s l b.thread (op.Start f) (object.Slot k) answer q.thread → creation code h.before.thread ≡ Some (record { slot = k; function = f; handed = true })
  starts_by k f answer b q at (by_itself c) = ⊎_elim started (λ e. cc) (operates_by (due_of code s t (settled code s t b.thread)) (op.Start f) (object.Slot k) (sym (action_is code s t (settled code s t b.thread)) ∙ c.comes))
    where
      started : due_of code s t (settled code s t b.thread) ≡ due.Operate (op.Start f) (object.Slot k) → creation code h.before.thread ≡ Some (record { slot = k; function = f; handed = true })
      started d =
          let x = due_starts code s t (settled code s t b.thread) f (object.Slot k) d in
          let slot_is : k ≡ x.slot = same_slot k x.slot x.on in
          let same : b ≡ h.before = same_Some b h.before (sym at ∙ h.stands) in
          subst (λ (z : Told). creation code z.thread ≡ Some (record { slot = k; function = f; handed = true })) same
          (subst (λ n. creation code b.thread ≡ Some (record { slot = n; function = f; handed = true })) (sym slot_is) (was_creating code s t b.thread (record { slot = x.slot; function = f; handed = true }) x.created))
        where
          same_slot : (i j : ℕ) → object.Slot i ≡ object.Slot j → i ≡ j
          same_slot i j e = cc
  starts_by k f answer b q at (by_revoke lock stripe m e g i) = cc
  starts_by k f answer b q at (by_stop m e g i) = cc
  starts_by k f answer b q at (by_close m e g i) = cc

  pub slot_step : (k : ℕ) → k < s.slots → SlotStep k
  slot_step k lt = on (object_step code s (object.Slot k) run limits (has_slot k lt) st st1 l reached h)
    where
      on : ObjectStep code s (object.Slot k) st l st1 → SlotStep k
      on (inl a) =
          let same : slot_state code s st1 k ≡ slot_state code s st k = ap slot_shown a.same in
          record {
            still = λ w. ap was_started same ∙ w;
            newly = λ n w. absurd (true≢false (sym w ∙ ap was_started same ∙ n));
            before = λ f e. inl (sym same ∙ e);
          }
      on (inr x) = by (slot_answer x.operation t x.answer (word_of_object code s (object.Slot k) st) (word_of_object code s (object.Slot k) st1) x.fits x.row)
        where
          now : (f : ℕ) → (slot_state code s st1 k ≡ Started f) ⊎ (slot_state code s st1 k ≡ Shut) → was_started (slot_state code s st1 k) ≡ true
          now f (inl e) = ap was_started e
          now f (inr e) = ap was_started e

          by : SlotMove x.operation (slot_state code s st k) (slot_state code s st1 k) x.answer → SlotStep k
          by (starts f o n after) = record {
            still = λ w. absurd (true≢false (sym w ∙ n));
            newly = λ m w. (f, starts_by k f x.answer x.before x.after x.stands (subst (λ z. Makes code s l x.before.thread z (object.Slot k) x.answer x.after.thread) o x.makes), after);
            before = λ g e. inr (n, now f after);
          }
          by (goes e g) = record {
            still = λ w. e ∙ w;
            newly = λ n w. absurd (true≢false (sym w ∙ e ∙ n));
            before = λ f i. inl (g f i);
          }

  -- threads that were drawn stay so
  pub drawn_more : drawn code s st ≤ drawn code s st1
  drawn_more = on (object_step code s object.Threads run limits refl st st1 l reached h)
    where
      on : ObjectStep code s object.Threads st l st1 → drawn code s st ≤ drawn code s st1
      on (inl a) = let same = ap (λ w. drawn_in (threads_of (state_of w))) a.same in omega arith
      on (inr x) = (threads_answer x.operation t x.answer (word_of_object code s object.Threads st) (word_of_object code s object.Threads st1) x.fits x.row).more

  -- ---- the thread's creation after the step

  pub data CreatedBy (y : Creation) : Type 0 where
    before : (x : Creation) → creation code h.before.thread ≡ Some x → y.slot ≡ x.slot → CreatedBy y
    drawn_now : y.slot ≡ drawn code s st → y.slot < s.slots → drawn code s st1 ≡ drawn code s st + 1 → y.handed ≡ false → CreatedBy y

  same_creation : (x y : Creation) → Some x ≡ Some y → x ≡ y
  same_creation x y e = cc

  drawn_slot : (answer : ℤ) (n : ℕ) → answer ≡ pos n → n < s.slots → slot_in answer ≡ n
  drawn_slot answer n e lt = ap slot_in e ∙ by (nat_lt n 16) refl
    where
      by : (b : Bool) → nat_lt n 16 ≡ b → (if b then n else 0) ≡ n
      by true e = refl
      by false e = let few = limits.few_slots in let ge = ltb-false n 16 e in absurd (omega arith)

  after_quiet : (q : Thread) (d : Due) (answer : ℤ) (y : Creation) → Creates code s (settled code s t h.before.thread) q d answer → creation code q ≡ Some y → (d ≡ due.Operate (op.Draw s.slots) object.Threads → (answer ≡ pos 0 → ⊥) → (answer ≡ pos (drawn code s st)) × (drawn code s st < s.slots) × (drawn code s st1 ≡ drawn code s st + 1)) → CreatedBy y
  after_quiet q d answer y (none n) e f = absurd (never (sym n ∙ e))
    where
      never : {P : Type 0} → None ≡ Some y → P
      never e = cc
  after_quiet q d answer y (stays n ns) e f = before y (was_creating code s t h.before.thread y (sym n ∙ e)) refl
  after_quiet q d answer y (draws g is ne n) e f =
      let r = f is ne in
      let y_is = same_creation (record { slot = slot_in answer; function = g; handed = false }) y (sym n ∙ e) in
      let slot_is : y.slot ≡ drawn code s st = sym (ap (λ (z : Creation). z.slot) y_is) ∙ drawn_slot answer (drawn code s st) r.0 r.1 in
      drawn_now slot_is (subst (λ k. k < s.slots) (sym slot_is) r.1) r.2 (sym (ap (λ (z : Creation). z.handed) y_is))
  after_quiet q d answer y (hands slot g w was is n) e f =
      let y_is = same_creation (record { slot = slot; function = g; handed = true }) y (sym n ∙ e) in
      before (record { slot = slot; function = g; handed = false }) (was_creating code s t h.before.thread (record { slot = slot; function = g; handed = false }) was) (sym (ap (λ (z : Creation). z.slot) y_is))

  comes_alive : (a : Action) (answer : ℤ) → ComesTo code s l h.before.thread a answer h.after.thread → a ≢ action.Ended → due_of code s t (settled code s t h.before.thread) ≡ due.Nothing → ⊥
  comes_alive a answer c ne e = ends_at (due_of code s t (settled code s t h.before.thread)) (λ z. ne (sym c.comes ∙ action_is code s t (settled code s t h.before.thread) ∙ z)) e

  pub comes_creates : (a : Action) (answer : ℤ) (c : ComesTo code s l h.before.thread a answer h.after.thread) → a ≢ action.Ended → Creates code s (settled code s t h.before.thread) h.after.thread (due_of code s t (settled code s t h.before.thread)) answer
  comes_creates a answer c ne = subst (λ q. Creates code s (settled code s t h.before.thread) q (due_of code s t (settled code s t h.before.thread)) answer) (sym c.after) (step_creates code s t (settled code s t h.before.thread) answer (comes_alive a answer c ne))

  pub creation_step : (y : Creation) → creation code h.after.thread ≡ Some y → CreatedBy y
  creation_step y e = by_kind h.kind
    where
      no_access : (a : Action) → IsAccessAction a → a ≢ action.Ended
      no_access a i z = subst IsAccessAction z i

      not_draw : (a : Action) → IsAccessAction a → a ≡ action.Operate (op.Draw s.slots) object.Threads → ⊥
      not_draw a i z = subst IsAccessAction z i

      by_access : (x : IsAccessStep code s st.words st1.words (event_of (machine code s) st l) l h.before.thread h.after.thread) → CreatedBy y
      by_access x =
          after_quiet h.after.thread (due_of code s t (settled code s t h.before.thread)) x.answer y (comes_creates x.action x.answer x.comes (no_access x.action x.is_access)) e
          (λ d ne. absurd (not_draw x.action x.is_access (sym x.comes.comes ∙ action_is code s t (settled code s t h.before.thread) ∙ ap action_of d)))

      same_op : (o p : Op) (a b : ObjId) → action.Operate o a ≡ action.Operate p b → (o ≡ p) × (a ≡ b)
      same_op o p a b z = (cc, cc)

      by_makes : (x : IsOperationStep code s st.words st1.words (event_of (machine code s) st l) l h.before.thread h.after.thread) → Makes code s l h.before.thread x.op x.obj x.answer h.after.thread → CreatedBy y
      by_makes x (by_itself c) =
          after_quiet h.after.thread (due_of code s t (settled code s t h.before.thread)) x.answer y (comes_creates (action.Operate x.op x.obj) x.answer c (λ z. cc)) e
          (λ d ne.
          let same = same_op x.op (op.Draw s.slots) x.obj object.Threads (sym c.comes ∙ action_is code s t (settled code s t h.before.thread) ∙ ap action_of d) in
          let row = row_here code s object.Threads run limits refl st st1 l reached h x same.1 in
          (threads_answer x.op t x.answer (word_of_object code s object.Threads st) (word_of_object code s object.Threads st1) (ap (λ o. kind_of (name_of o)) same.0) row).draws s.slots same.0 ne)
      by_makes x (by_revoke lock stripe m a b c) = before y (sym (ap (λ z. creation code z) c) ∙ e) refl
      by_makes x (by_stop m a b c) = let n : creation code (stopped h.before.thread) ≡ None = refl in absurd (Creation_none (sym n ∙ sym (ap (λ z. creation code z) c) ∙ e))
        where
          Creation_none : {P : Type 0} → None ≡ Some y → P
          Creation_none z = cc
      by_makes x (by_close m a b c) = let n : creation code (slot_closed h.before.thread) ≡ None = refl in absurd (Creation_none (sym n ∙ sym (ap (λ z. creation code z) c) ∙ e))
        where
          Creation_none : {P : Type 0} → None ≡ Some y → P
          Creation_none z = cc

      by_kind : StepKind code s st.words st1.words (event_of (machine code s) st l) l h.before.thread h.after.thread → CreatedBy y
      by_kind (inl x) = by_access x
      by_kind (inr x) = by_makes x x.makes
