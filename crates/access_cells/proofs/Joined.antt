-- A thread that loads the result of another one has joined it, and so the other one's slot has ended.
use Rattle.std.proofs.Common.{◌≡◌, ◌≢◌, ℕ, zero, suc, ◌<◌, ◌⊎◌, inl, inr, ⊎_elim, true, false, [], Some, None, refl, sym, ap, subst, ◌∙◌, ℤ, pos}
use Rattle.std.specs.Prelude.{slice_get}
use Rattle.std.proofs.lemmas.Bool.{true≢false, lt-ltb, ltb-true}
use Rattle.sync_objects.specs.Setup.{SetupView, IsWithinLimits}
use Rattle.sync_objects.specs.Names.{name_of, kind_of, object_kind}
use Rattle.sync_objects.specs.States.{SlotState}
use Rattle.sync_objects.specs.declared.object.ObjId.{ObjId}
use Rattle.sync_objects.specs.declared.object.ObjId.TheVariants as object
use Rattle.sync_objects.specs.declared.operation.Op.{Op}
use Rattle.sync_objects.specs.declared.operation.Op.TheVariants as op
use Rattle.word_semantics.specs.Library.{is_misuse}
use Rattle.word_semantics.specs.declared.event.Action.{Action}
use Rattle.word_semantics.specs.declared.event.Action.TheVariants as action
use Rattle.word_semantics.specs.declared.event.Due.{Due}
use Rattle.word_semantics.specs.declared.event.Due.TheVariants as due
use Rattle.flow_code.specs.declared.code.Code.{Code}
use Rattle.flow_code.specs.Next.{phase_due, phase_after, due_of, counted, one_more, after_due, stepped as thread_stepped, stopped, slot_closed, action_of}
use Rattle.flow_code.specs.Settle.{settled, IsRunnable}
use Rattle.flow_code.specs.Threads.{Thread}
use Rattle.flow_code.proofs.Counts.{IsAccessAction, stepped_is, operate_after}
use Rattle.flow_code.proofs.Dues.{quiet_by_code, access_by_code, operate_by_code}
use Rattle.flow_code.proofs.Goings.{thread_goes}
use Rattle.flow_code.proofs.Settle.{settled_keeps, action_is}
use Rattle.core_run.specs.Histories.{IsReachable}
use Rattle.core_run.specs.Machine.{Told, machine, start_state}
use Rattle.thread_interpreter.specs.Starts.{start_thread}
use Rattle.core_run.specs.Words.{has_object}
use Rattle.core_run.proofs.ThreadRanges.{start_thread_is}
use Rattle.run_theory.specs.Labels.{Label, label_thread}
use Rattle.run_theory.specs.Ordered.{event_of}
use Rattle.run_theory.specs.Steps.{State, stepped}
use Rattle.run_theory.proofs.Kept.{kept_along, reaches_step}
use Rattle.lock_ownership.specs.Holders.{word_of_object}
use Rattle.lock_ownership.proofs.ObjectSteps.{made_fits, row_here}
use Rattle.lock_ownership.proofs.SlotMoves.{life, SlotMove, starts, shuts, begins, ends, joins as move_joins, misses, closes, slot_moves, is_over, over_stays}
use Rattle.lock_ownership.proofs.SlotSteps.{stays as life_stays}
use Rattle.lock_ownership.proofs.Stepping.{ComesTo, Makes, by_itself, by_revoke, by_stop, by_close, IsAccessStep, IsOperationStep, StepKind, HasStepped, has_stepped}
use Rattle.points_to_sound.proofs.Creating.{IsLive}
use Rattle.points_to_sound.proofs.Handing.{ends_at}
use Rattle.points_to_sound.proofs.Layouts.{set_got}
use Rattle.access_cells.proofs.Joining.{joining, Joins, none, stays, joins, phase_joins}

-- ---- each step of a thread

module _ (code : Code) (s : SetupView) (t : ℕ) (th : Thread) where
  same_joins : (q p : Thread) (d : Due) (answer : ℤ) → joining code p ≡ joining code q → Joins code th q d answer → Joins code th p d answer
  same_joins q p d answer e (none n) = none (e ∙ n)
  same_joins q p d answer e (stays n) = stays (e ∙ n)
  same_joins q p d answer e (joins k is ne n) = joins k is ne (e ∙ n)

  by_code : (d : Due) (answer : ℤ) → phase_due code s t th th.phase ≡ d → IsLive d → Joins code th (phase_after code s t th th.phase answer) d answer
  by_code d answer e live = subst (λ y. Joins code th (phase_after code s t th th.phase answer) y answer) e (phase_joins code s t th th.phase answer refl (subst IsLive (sym e) live))

  operates : (o : Op) (obj : ObjId) (answer : ℤ) → due_of code s t th ≡ due.Operate o obj → Joins code th (after_due code s t th (due.Operate o obj) answer) (due.Operate o obj) answer
  operates o obj answer e =
      ⊎_elim
      (λ p.
      let first = (thread_goes code s t th (due.Operate o obj) answer p.0).0.first in
      subst (λ q. Joins code th q (due.Operate o obj) answer) (sym (operate_after code s t th o obj answer first))
      (same_joins (phase_after code s t th th.phase answer) (counted o (phase_after code s t th th.phase answer)) (due.Operate o obj) answer refl (by_code (due.Operate o obj) answer p.0 tt)))
      (λ r. subst (λ z. Joins code th (after_due code s t th (due.Operate z obj) answer) (due.Operate o obj) answer) (sym r.1) (stays refl))
      (operate_by_code code s t th o obj e)

  due_joins : (d : Due) (answer : ℤ) → due_of code s t th ≡ d → (d ≡ due.Nothing → ⊥) → Joins code th (after_due code s t th d answer) d answer
  due_joins due.Nothing answer e n = absurd (n refl)
  due_joins due.Quiet answer e n = by_code due.Quiet answer (quiet_by_code code s t th e) tt
  due_joins (due.Load c) answer e n = same_joins (phase_after code s t th th.phase answer) (one_more (phase_after code s t th th.phase answer)) (due.Load c) answer refl (by_code (due.Load c) answer (access_by_code code s t th (due.Load c) tt e).0 tt)
  due_joins (due.Store c v) answer e n = same_joins (phase_after code s t th th.phase answer) (one_more (phase_after code s t th th.phase answer)) (due.Store c v) answer refl (by_code (due.Store c v) answer (access_by_code code s t th (due.Store c v) tt e).0 tt)
  due_joins due.Mark answer e n = same_joins (phase_after code s t th th.phase answer) (one_more (phase_after code s t th th.phase answer)) due.Mark answer refl (by_code due.Mark answer (access_by_code code s t th due.Mark tt e).0 tt)
  due_joins (due.Operate o obj) answer e n = operates o obj answer e
  due_joins (due.Trap kind) answer e n = none refl

  pub step_joins : (answer : ℤ) → (due_of code s t th ≡ due.Nothing → ⊥) → Joins code th (thread_stepped code s t th answer) (due_of code s t th) answer
  step_joins answer n = subst (λ q. Joins code th q (due_of code s t th) answer) (sym (stepped_is code s t th (due_of code s t th) answer refl)) (due_joins (due_of code s t th) answer refl n)

  -- by a quiet step no join comes about
  quiet_by : (d : Due) (answer : ℤ) (q : Thread) → d ≡ due.Quiet → Joins code th q d answer → (joining code q ≡ None) ⊎ (joining code q ≡ joining code th)
  quiet_by d answer q e (none n) = inl n
  quiet_by d answer q e (stays n) = inr n
  quiet_by d answer q e (joins k is ne n) = cc

  quiet_joining : due_of code s t th ≡ due.Quiet → (joining code (thread_stepped code s t th (pos 0)) ≡ None) ⊎ (joining code (thread_stepped code s t th (pos 0)) ≡ joining code th)
  quiet_joining e = quiet_by (due_of code s t th) (pos 0) (thread_stepped code s t th (pos 0)) e (step_joins (pos 0) (λ n. differ (sym e ∙ n)))
    where
      differ : due.Quiet ≡ due.Nothing → ⊥
      differ e = cc

module _ (code : Code) (s : SetupView) (t : ℕ) (th : Thread) where
  settled_joining : (joining code (settled code s t th) ≡ None) ⊎ (joining code (settled code s t th) ≡ joining code th)
  settled_joining =
      settled_keeps code s t (λ q. (joining code q ≡ None) ⊎ (joining code q ≡ joining code th))
      (λ q e h. ⊎_elim (λ n. inl n) (λ k. ⊎_elim (λ n. inl (k ∙ n)) (λ n. inr (k ∙ n)) h) (quiet_joining code s t q e))
      th (inr refl)

  pub was_joining : (k : ℕ) → joining code (settled code s t th) ≡ Some k → joining code th ≡ Some k
  was_joining k e = ⊎_elim (λ n. absurd (never (sym n ∙ e))) (λ same. sym same ∙ e) settled_joining
    where
      never : None ≡ Some k → ⊥
      never e = cc

-- ---- each step of the machine

-- whom a thread has joined is over
pub record AreOver (code : Code) (s : SetupView) (st : State Told) : Type 0 where
  pub each : (t k : ℕ) (told : Told) → slice_get st.threads t ≡ Some told → joining code told.thread ≡ Some k → (k < s.slots) × (is_over (life code s k st) ≡ true)

module _ (code : Code) (s : SetupView) (run : IsRunnable code) (limits : IsWithinLimits s) where
  module _ (st st1 : State Told) (l : Label) (reached : IsReachable code s st) (e : stepped (machine code s) st l ≡ Some st1) (h : HasStepped code s st l st1) (before : AreOver code s st) where
    abbrev t : ℕ
    t = label_thread l

    abbrev z : Thread
    z = settled code s t h.before.thread

    still : (k : ℕ) → (k < s.slots) × (is_over (life code s k st) ≡ true) → (k < s.slots) × (is_over (life code s k st1) ≡ true)
    still k o = (o.0, life_stays code s run limits k (lt-ltb k s.slots o.0) st st1 l reached e is_over over_stays o.1)

    was : (k : ℕ) → joining code h.before.thread ≡ Some k → (k < s.slots) × (is_over (life code s k st1) ≡ true)
    was k j = still k (before.each t k h.before h.stands j)

    never : {P : Type 0} (k : ℕ) → None ≡ Some k → P
    never k i = cc

    same_number : (j k : ℕ) → Some j ≡ Some k → j ≡ k
    same_number j k i = cc

    -- a join that was no misuse is of a thread that is over
    over_by : (k : ℕ) (o : Op) (answer : ℤ) (x y : SlotState) → o ≡ op.Join → is_misuse answer ≡ false → SlotMove o answer x y → is_over y ≡ true
    over_by k o answer x y is ne (starts f i a b) = cc
    over_by k o answer x y is ne (shuts f i a b) = cc
    over_by k o answer x y is ne (begins f i a b) = cc
    over_by k o answer x y is ne (ends i a b) = cc
    over_by k o answer x y is ne (move_joins i a b) = ap is_over b
    over_by k o answer x y is ne (misses i a b) = absurd (true≢false (sym (ap is_misuse a) ∙ ne))
    over_by k o answer x y is ne (closes i a b) = cc

    after_step : (q : Thread) (d : Due) (answer : ℤ) (k : ℕ) → Joins code z q d answer → joining code q ≡ Some k → (d ≡ due.Operate op.Join (object.Slot k) → is_misuse answer ≡ false → (k < s.slots) × (is_over (life code s k st1) ≡ true)) → (k < s.slots) × (is_over (life code s k st1) ≡ true)
    after_step q d answer k (none n) j f = never k (sym n ∙ j)
    after_step q d answer k (stays n) j f = was k (was_joining code s t h.before.thread k (sym n ∙ j))
    after_step q d answer k (joins i is ne n) j f = let same = same_number i k (sym n ∙ j) in f (is ∙ ap (λ m. due.Operate op.Join (object.Slot m)) same) ne

    comes_joins : (a : Action) (answer : ℤ) (c : ComesTo code s l h.before.thread a answer h.after.thread) → a ≢ action.Ended → Joins code z h.after.thread (due_of code s t z) answer
    comes_joins a answer c ne = subst (λ q. Joins code z q (due_of code s t z) answer) (sym c.after) (step_joins code s t z answer (ends_at (due_of code s t z) (λ i. ne (sym c.comes ∙ action_is code s t z ∙ i))))

    own_over : (k : ℕ) → joining code h.after.thread ≡ Some k → (k < s.slots) × (is_over (life code s k st1) ≡ true)
    own_over k j = by_kind h.kind
      where
        no_access : (a : Action) → IsAccessAction a → a ≢ action.Ended
        no_access a i n = subst IsAccessAction n i

        not_join : (a : Action) → IsAccessAction a → a ≡ action.Operate op.Join (object.Slot k) → ⊥
        not_join a i n = subst IsAccessAction n i

        by_access : IsAccessStep code s st.words st1.words (event_of (machine code s) st l) l h.before.thread h.after.thread → (k < s.slots) × (is_over (life code s k st1) ≡ true)
        by_access x =
            after_step h.after.thread (due_of code s t z) x.answer k (comes_joins x.action x.answer x.comes (no_access x.action x.is_access)) j
            (λ d ne. absurd (not_join x.action x.is_access (sym x.comes.comes ∙ action_is code s t z ∙ ap action_of d)))

        same_op : (o p : Op) (a b : ObjId) → action.Operate o a ≡ action.Operate p b → (o ≡ p) × (a ≡ b)
        same_op o p a b n = (cc, cc)

        by_row : (x : IsOperationStep code s st.words st1.words (event_of (machine code s) st l) l h.before.thread h.after.thread) → x.op ≡ op.Join → x.obj ≡ object.Slot k → is_misuse x.answer ≡ false → (k < s.slots) × (is_over (life code s k st1) ≡ true)
        by_row x is on ne =
            let has : has_object code s (object.Slot k) ≡ true = ap (has_object code s) (sym on) ∙ x.has in
            let row = row_here code s (object.Slot k) run limits has st st1 l reached h x on in
            let fits : kind_of (name_of x.op) ≡ object_kind (object.Slot k) = (made_fits code s l h.before.thread x.op x.obj x.answer h.after.thread run limits x.makes).0 ∙ ap object_kind on in
            (ltb-true k s.slots has, over_by k x.op x.answer (life code s k st) (life code s k st1) is ne (slot_moves x.op t x.answer (word_of_object code s (object.Slot k) st) (word_of_object code s (object.Slot k) st1) fits row))

        by_makes : (x : IsOperationStep code s st.words st1.words (event_of (machine code s) st l) l h.before.thread h.after.thread) → Makes code s l h.before.thread x.op x.obj x.answer h.after.thread → (k < s.slots) × (is_over (life code s k st1) ≡ true)
        by_makes x (by_itself c) =
            after_step h.after.thread (due_of code s t z) x.answer k (comes_joins (action.Operate x.op x.obj) x.answer c (λ n. cc)) j
            (λ d ne. let same = same_op x.op op.Join x.obj (object.Slot k) (sym c.comes ∙ action_is code s t z ∙ ap action_of d) in by_row x same.0 same.1 ne)
        by_makes x (by_revoke lock stripe m a b c) = was k (sym (ap (λ q. joining code q) c) ∙ j)
        by_makes x (by_stop m a b c) = let n : joining code (stopped h.before.thread) ≡ None = refl in never k (sym n ∙ sym (ap (λ q. joining code q) c) ∙ j)
        by_makes x (by_close m a b c) = let n : joining code (slot_closed h.before.thread) ≡ None = refl in never k (sym n ∙ sym (ap (λ q. joining code q) c) ∙ j)

        by_kind : StepKind code s st.words st1.words (event_of (machine code s) st l) l h.before.thread h.after.thread → (k < s.slots) × (is_over (life code s k st1) ≡ true)
        by_kind (inl x) = by_access x
        by_kind (inr x) = by_makes x x.makes

    over_after : AreOver code s st1
    over_after = record {
      each = λ u k told at j. ⊎_elim
          (λ o. still k (before.each u k told o.1 j))
          (λ o. own_over k (subst (λ (q : Told). joining code q.thread ≡ Some k) (sym o.1) j))
          (set_got st.threads t u h.after told (subst (λ ths. slice_get ths u ≡ Some told) h.threads at));
    }

  -- ---- the start

  over_at_start : AreOver code s (start_state code s)
  over_at_start = record { each = λ t k told at j. no_join t k (subst (λ (q : Told). joining code q.thread ≡ Some k) (start_thread_is code s t told at) j) }
    where
      no_join : {P : Type 0} (t k : ℕ) → joining code (start_thread code s t) ≡ Some k → P
      no_join zero k j = cc
      no_join (suc t) k j = cc

  record Held (st : State Told) : Type 0 where
    reached : IsReachable code s st
    over : AreOver code s st

  -- in each state that is reached whom a thread has joined is over
  pub are_over : (st : State Told) → IsReachable code s st → AreOver code s st
  are_over st reached =
      (kept_along (machine code s) Held
      (λ a b l h e. record { reached = reaches_step (machine code s) (start_state code s) a b l h.reached e; over = over_after a b l h.reached e (has_stepped code s a b l e) h.over })
      reached.0 (start_state code s) st reached.1 (record { reached = ([], refl); over = over_at_start })).over
