-- In each state that is reached, what is known of the frames of a thread holds, and their locks mean what they say.
use Rattle.std.proofs.Common.{◌≡◌, ◌≢◌, ℕ, zero, suc, ◌+◌, ◌⊎◌, inl, inr, ⊎_elim, true, ℤ, List, [], length, Some, refl, sym, ap, subst, ◌∙◌}
use Rattle.std.specs.Prelude.{slice_get}
use Rattle.std.proofs.lemmas.Bool.{cases_eq}
use Rattle.std.proofs.lemmas.Option.{same_Some}
use Rattle.rr_base.proofs.Lists.{slice_get-set_other, slice_get-set_same}
use Rattle.sync_objects.specs.Setup.{SetupView, IsWithinLimits}
use Rattle.sync_objects.specs.declared.object.ObjId.{ObjId}
use Rattle.sync_objects.specs.declared.operation.Op.{Op}
use Rattle.word_semantics.specs.declared.event.Action.TheVariants as action
use Rattle.word_semantics.specs.declared.event.Due.{Due}
use Rattle.word_semantics.specs.declared.event.Due.TheVariants as due
use Rattle.flow_code.specs.declared.code.Code.{Code}
use Rattle.flow_code.specs.declared.thread.Phase.TheVariants as phase
use Rattle.flow_code.specs.Constants.{constants_fit}
use Rattle.flow_code.specs.Next.{due_of, action_of, stepped as thread_stepped}
use Rattle.flow_code.specs.Settle.{settled, IsRunnable}
use Rattle.flow_code.specs.Threads.{Thread}
use Rattle.flow_code.specs.Valid.{is_valid}
use Rattle.flow_code.proofs.Counts.{IsAccessAction, settled_keeps_all}
use Rattle.flow_code.proofs.Runnable.{valid_runnable}
use Rattle.flow_code.proofs.Settle.{action_is}
use Rattle.core_run.specs.Histories.{IsReachable}
use Rattle.core_run.specs.Machine.{Told, machine, start_state, start_threads_from}
use Rattle.thread_interpreter.specs.Starts.{start_phase}
use Rattle.run_theory.specs.Labels.{Label, label_thread}
use Rattle.run_theory.specs.Ordered.{event_of}
use Rattle.run_theory.specs.Steps.{State}
use Rattle.run_theory.proofs.Kept.{kept_along, reaches_step}
use Rattle.lock_ownership.proofs.Stepping.{Makes, by_itself, by_revoke, by_stop, by_close, IsAccessStep, IsOperationStep, HasStepped, has_stepped}
use Rattle.facts.specs.Locks.{Points}
use Rattle.facts.specs.Summaries.{AreSolution}
use Rattle.facts.specs.declared.locks.Held.{Held}
use Rattle.lockset_sound.specs.Frames.{holds_at}
use Rattle.lockset_sound.specs.Leading.{Holds}
use Rattle.lockset_sound.proofs.LockSteps.{others_keep, access_keeps, operation_passes}
use Rattle.lockset_sound.proofs.NoUnlocks.{is_unlock}
use Rattle.lockset_sound.proofs.Passing.{More, PassesBy, Passes, more_by}
use Rattle.lockset_sound.proofs.ThreadSteps.{IsTrap, Frames, Fact, fact_more, stepped_goes, trap_goes, settled_fact}

-- what is due where an operation comes next
abbrev OperatesOrTraps : Due → Op → ObjId → Type 0
OperatesOrTraps d o obj = (d ≡ due.Operate o obj) ⊎ IsTrap d

operates : (d : Due) (o : Op) (obj : ObjId) → action_of d ≡ action.Operate o obj → OperatesOrTraps d o obj
operates due.Nothing o obj e = cc
operates due.Quiet o obj e = cc
operates (due.Load c) o obj e = cc
operates (due.Store c w) o obj e = cc
operates due.Mark o obj e = cc
operates (due.Operate p q) o obj e = inl cc
operates (due.Trap kind) o obj e = inr tt

accesses : (d : Due) (answer : ℤ) (now later : Holds) → IsAccessAction (action_of d) → More now later → Passes d answer now later
accesses due.Nothing answer now later a h = absurd a
accesses due.Quiet answer now later a h = absurd a
accesses (due.Load c) answer now later a h = h
accesses (due.Store c w) answer now later a h = h
accesses due.Mark answer now later a h = h
accesses (due.Operate o obj) answer now later a h = absurd a
accesses (due.Trap kind) answer now later a h = absurd a

module _ (code : Code) (valid : is_valid code ≡ true) (constants : constants_fit code ≡ true) (s : SetupView) (limits : IsWithinLimits s) (tops : List (List Held)) (xs : List Points) (solves : AreSolution code tops xs) (long : length tops ≡ length code.functions) where
  abbrev pub FactOf : Holds → Thread → Type 0
  FactOf now th = Fact code valid constants s limits.few_slots tops xs solves long now th

  abbrev pub Facts : State Told → Type 0
  Facts st = (t : ℕ) (told : Told) → slice_get st.threads t ≡ Some told → FactOf (holds_at code s t st) told.thread

  run_ok : IsRunnable code
  run_ok = valid_runnable code valid

  -- ---- the start

  start_phases : (k n t : ℕ) (told : Told) → slice_get (start_threads_from code s k n) t ≡ Some told → told.thread.phase ≡ phase.Running → ⊥
  start_phases k zero t told e r = cc
  start_phases k (suc n) zero told e r = not_running k (subst (λ (z : Told). z.thread.phase ≡ phase.Running) (sym (same_Some _ told e)) r)
    where
      not_running : (k : ℕ) → start_phase code k ≡ phase.Running → ⊥
      not_running zero g = cc
      not_running (suc k) g = cc
  start_phases k (suc n) (suc t) told e r = start_phases (k + 1) n t told e r

  -- ---- one step

  module _ (st st1 : State Told) (l : Label) (reached : IsReachable code s st) (h : HasStepped code s st l st1) (facts : Facts st) where
    abbrev now : Holds
    now = holds_at code s (label_thread l) st

    abbrev later : Holds
    later = holds_at code s (label_thread l) st1

    abbrev calm : Thread
    calm = settled code s (label_thread l) h.before.thread

    before : FactOf now h.before.thread
    before = facts (label_thread l) h.before h.stands

    quiet : FactOf now calm
    quiet = settled_fact code valid constants s limits.few_slots tops xs solves long (label_thread l) now h.before.thread before

    by_due : (answer : ℤ) → Passes (due_of code s (label_thread l) calm) answer now later → h.after.thread ≡ thread_stepped code s (label_thread l) calm answer → FactOf later h.after.thread
    by_due answer p e = subst (FactOf later) (sym e) (stepped_goes code valid constants s limits.few_slots tops xs solves long (label_thread l) now later calm answer p quiet)

    by_access : IsAccessStep code s st.words st1.words (event_of (machine code s) st l) l h.before.thread h.after.thread → FactOf later h.after.thread
    by_access a =
        let is = subst IsAccessAction (sym a.comes.comes ∙ action_is code s (label_thread l) calm) a.is_access in
        by_due a.answer (accesses (due_of code s (label_thread l) calm) a.answer now later is (access_keeps code s run_ok limits st st1 l reached h a)) a.comes.after

    by_operation : (x : IsOperationStep code s st.words st1.words (event_of (machine code s) st l) l h.before.thread h.after.thread) → FactOf later h.after.thread
    by_operation x = by x.op x.obj x.answer (operation_passes code s run_ok limits st st1 l reached h x) x.makes
      where
        by : (o : Op) (obj : ObjId) (answer : ℤ) → PassesBy o obj answer now later → Makes code s l h.before.thread o obj answer h.after.thread → FactOf later h.after.thread
        by o obj answer p (by_itself c) =
            ⊎_elim
            (λ e. by_due answer (subst (λ d. Passes d answer now later) (sym e) p) c.after)
            (λ e. subst (FactOf later) (sym c.after) (trap_goes code valid constants s limits.few_slots tops xs solves long (label_thread l) later calm (due_of code s (label_thread l) calm) answer refl e))
            (operates (due_of code s (label_thread l) calm) o obj (sym (action_is code s (label_thread l) calm) ∙ c.comes))
        by o obj answer p (by_revoke lock stripe may e g after) =
            let held = more_by o obj answer now later (ap is_unlock e) p in
            let f = fact_more code valid constants s limits.few_slots tops xs solves long now later h.before.thread held before in
            subst (FactOf later) (sym after) (λ r. record { known = (f r).known; stack = (f r).stack })
        by o obj answer p (by_stop may e g after) = subst (FactOf later) (sym after) (λ r. cc)
        by o obj answer p (by_close may e g after) = subst (FactOf later) (sym after) (λ r. cc)

    own_fact : FactOf later h.after.thread
    own_fact = ⊎_elim (λ a. by_access a) (λ x. by_operation x) h.kind

    there : slice_get st1.threads (label_thread l) ≡ Some h.after
    there = ap (λ ths. slice_get ths (label_thread l)) h.threads ∙ slice_get-set_same st.threads (label_thread l) h.after h.before h.stands

    others : (v : ℕ) → v ≢ label_thread l → slice_get st1.threads v ≡ slice_get st.threads v
    others v ne = ap (λ ths. slice_get ths v) h.threads ∙ slice_get-set_other st.threads (label_thread l) v h.after ne

    facts_after : Facts st1
    facts_after t told e =
        ⊎_elim
        (λ same. subst (λ v. FactOf (holds_at code s v st1) told.thread) (sym same)
        (subst (λ (z : Told). FactOf (holds_at code s (label_thread l) st1) z.thread) (same_Some h.after told (sym there ∙ ap (slice_get st1.threads) (sym same) ∙ e)) own_fact))
        (λ ne. fact_more code valid constants s limits.few_slots tops xs solves long (holds_at code s t st) (holds_at code s t st1) told.thread (others_keep code s run_ok limits st st1 l reached h t (λ q. ne (sym q))) (facts t told (sym (others t ne) ∙ e)))
        (cases_eq t (label_thread l))

  -- ---- all runs

  record HasFacts (st : State Told) : Type 0 where
    reached : IsReachable code s st
    facts : Facts st

  pub facts_hold : (st : State Told) → IsReachable code s st → Facts st
  facts_hold st reached =
      (kept_along (machine code s) HasFacts
      (λ a b l h e. record { reached = reaches_step (machine code s) (start_state code s) a b l h.reached e; facts = facts_after a b l h.reached (has_stepped code s a b l e) h.facts })
      reached.0 (start_state code s) st reached.1 (record { reached = ([], refl); facts = λ t told e r. absurd (start_phases 0 s.slots t told e r) })).facts

  module _ (st : State Told) (t : ℕ) (told : Told) (reached : IsReachable code s st) (e : slice_get st.threads t ≡ Some told) (running : told.thread.phase ≡ phase.Running) where
    pub frames_now : Frames code valid constants s limits.few_slots tops xs solves long (holds_at code s t st) told.thread
    frames_now = facts_hold st reached t told e running

    pub frames_settled : Frames code valid constants s limits.few_slots tops xs solves long (holds_at code s t st) (settled code s t told.thread)
    frames_settled = settled_fact code valid constants s limits.few_slots tops xs solves long t (holds_at code s t st) told.thread (facts_hold st reached t told e) ((settled_keeps_all code s t told.thread).phase ∙ running)
