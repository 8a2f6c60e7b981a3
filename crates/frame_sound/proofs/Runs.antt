-- In each state that a run reaches, each thread that runs stands at an instruction, and each frame below at a call. A thread to
-- which no step comes has ended.
use Rattle.std.proofs.Common.{◌≡◌, ◌≢◌, ℕ, zero, suc, ◌⊎◌, inl, inr, ⊎_elim, true, ℤ, [], Option, Some, None, refl, sym, ap, subst, ◌∙◌}
use Rattle.std.specs.Prelude.{slice_get, is_some}
use Rattle.std.proofs.lemmas.Bool.{cases_eq}
use Rattle.std.proofs.lemmas.Option.{same_Some}
use Rattle.rr_base.specs.declared.trap.Trap.{Trap}
use Rattle.rr_base.proofs.Lists.{slice_get-set_other, slice_get-set_same}
use Rattle.sync_objects.specs.Setup.{SetupView, IsWithinLimits}
use Rattle.sync_objects.specs.declared.object.ObjId.{ObjId}
use Rattle.sync_objects.specs.declared.operation.Op.{Op}
use Rattle.word_semantics.specs.declared.event.Action.TheVariants as action
use Rattle.word_semantics.specs.declared.event.Due.{Due}
use Rattle.word_semantics.specs.declared.event.Due.TheVariants as due
use Rattle.flow_code.specs.declared.act.Instr.{Instr}
use Rattle.flow_code.specs.declared.code.Code.{Code}
use Rattle.flow_code.specs.declared.thread.Phase.TheVariants as phase
use Rattle.flow_code.specs.Next.{act_in, due_of, action_of, has_ended, stepped as thread_stepped}
use Rattle.flow_code.specs.Settle.{next, settled}
use Rattle.flow_code.specs.Threads.{Thread, instr_at}
use Rattle.flow_code.specs.Valid.{is_valid}
use Rattle.flow_code.proofs.Counts.{IsAccessAction, settled_keeps_all, ended_action_is}
use Rattle.flow_code.proofs.Settle.{action_is}
use Rattle.thread_interpreter.specs.Starts.{start_phase}
use Rattle.core_run.specs.Histories.{IsReachable}
use Rattle.core_run.specs.Machine.{Told, machine, start_state}
use Rattle.core_run.proofs.ThreadRanges.{start_thread_is}
use Rattle.run_theory.specs.Labels.{Label, label_thread}
use Rattle.run_theory.specs.Ordered.{event_of}
use Rattle.run_theory.specs.Steps.{State}
use Rattle.run_theory.proofs.Kept.{kept_along, reaches_step}
use Rattle.lock_ownership.proofs.Stepping.{Makes, by_itself, by_revoke, by_stop, by_close, IsAccessStep, HasStepped, has_stepped}
use Rattle.lockset_sound.proofs.RootSteps.{RootOf, ThreadRoot}
use Rattle.lockset_sound.proofs.RootsInRuns.{roots_hold}
use Rattle.snapshots.specs.Conditions.{begins}
use Rattle.frame_sound.proofs.Calls.{OperationAnswers, Answers}
use Rattle.frame_sound.proofs.Table.{answers}
use Rattle.frame_sound.proofs.Shapes.{IsThere, stands_at, may_start_there, main_there}
use Rattle.frame_sound.proofs.Steps.{Fact, Framed, Enters, steps, traps, settles}
use Rattle.frame_sound.proofs.Roots.{root_begins}

-- what is due where an operation comes next
operates : (d : Due) (o : Op) (obj : ObjId) → action_of d ≡ action.Operate o obj → (d ≡ due.Operate o obj) ⊎ ((kind : Trap) × (d ≡ due.Trap kind))
operates due.Nothing o obj e = cc
operates due.Quiet o obj e = cc
operates (due.Load c) o obj e = cc
operates (due.Store c w) o obj e = cc
operates due.Mark o obj e = cc
operates (due.Operate p q) o obj e = inl cc
operates (due.Trap kind) o obj e = inr (kind, refl)

accesses : (d : Due) (answer : ℤ) → IsAccessAction (action_of d) → Answers d answer
accesses due.Nothing answer a = absurd a
accesses due.Quiet answer a = absurd a
accesses (due.Load c) answer a = tt
accesses (due.Store c w) answer a = tt
accesses due.Mark answer a = tt
accesses (due.Operate o obj) answer a = absurd a
accesses (due.Trap kind) answer a = absurd a

module _ (code : Code) (valid : is_valid code ≡ true) (s : SetupView) (limits : IsWithinLimits s) where
  abbrev pub Facts : State Told → Type 0
  Facts st = (t : ℕ) (told : Told) → slice_get st.threads t ≡ Some told → Fact code valid s told.thread

  -- a thread begins with a function that the code has
  begins_there : (t f : ℕ) → begins code t f ≡ true → IsThere code f
  begins_there zero f h = main_there code f h
  begins_there (suc k) f h = may_start_there code f h

  root_there : (t f : ℕ) → RootOf code t f → IsThere code f
  root_there t f r = begins_there t f (root_begins code valid t f r)

  enters : (t : ℕ) (th : Thread) → ThreadRoot code t th → Enters code valid s th
  enters t th r = record { begun = λ f e. root_there t f (r.begun f e); loaded = λ f w e. root_there t f (r.loaded f w e) }

  -- ---- the start

  at_start : Facts (start_state code s)
  at_start t told e = subst (λ (z : Told). Fact code valid s z.thread) (sym (start_thread_is code s t told e)) (λ runs. absurd (not_running t runs))
    where
      not_running : (k : ℕ) → start_phase code k ≡ phase.Running → ⊥
      not_running zero g = cc
      not_running (suc k) g = cc

  -- ---- one step

  module _ (st st1 : State Told) (l : Label) (reached : IsReachable code s st) (h : HasStepped code s st l st1) (facts : Facts st) where
    abbrev mine : ℕ
    mine = label_thread l

    abbrev calm : Thread
    calm = settled code s mine h.before.thread

    before : Fact code valid s h.before.thread
    before = facts mine h.before h.stands

    root : ThreadRoot code mine h.before.thread
    root = (roots_hold code valid s limits st reached).threads mine h.before h.stands

    calm_enters : Enters code valid s calm
    calm_enters =
        let same = (settled_keeps_all code s mine h.before.thread).phase in
        let n = enters mine h.before.thread root in
        record { begun = λ f e. n.begun f (sym same ∙ e); loaded = λ f w e. n.loaded f w (sym same ∙ e) }

    quiet : Fact code valid s calm
    quiet = settles code valid s mine h.before.thread (enters mine h.before.thread root) before

    by_due : (answer : ℤ) → Answers (due_of code s mine calm) answer → h.after.thread ≡ thread_stepped code s mine calm answer → Fact code valid s h.after.thread
    by_due answer a e = subst (Fact code valid s) (sym e) (steps code valid s mine calm answer calm_enters a quiet)

    by_access : IsAccessStep code s st.words st1.words (event_of (machine code s) st l) l h.before.thread h.after.thread → Fact code valid s h.after.thread
    by_access a =
        let is = subst IsAccessAction (sym a.comes.comes ∙ action_is code s mine calm) a.is_access in
        by_due a.answer (accesses (due_of code s mine calm) a.answer is) a.comes.after

    by_operation : (o : Op) (obj : ObjId) (answer : ℤ) → OperationAnswers o answer → Makes code s l h.before.thread o obj answer h.after.thread → Fact code valid s h.after.thread
    by_operation o obj answer a (by_itself c) =
        ⊎_elim
        (λ e. by_due answer (subst (λ d. Answers d answer) (sym e) a) c.after)
        (λ e. subst (Fact code valid s) (sym c.after) (traps code valid s mine calm e.0 answer e.1))
        (operates (due_of code s mine calm) o obj (sym (action_is code s mine calm) ∙ c.comes))
    by_operation o obj answer a (by_revoke lock stripe may e g after) = subst (Fact code valid s) (sym after) (λ r. record { top = (before r).top; below = (before r).below })
    by_operation o obj answer a (by_stop may e g after) = subst (Fact code valid s) (sym after) (λ r. cc)
    by_operation o obj answer a (by_close may e g after) = subst (Fact code valid s) (sym after) (λ r. cc)

    own : Fact code valid s h.after.thread
    own = ⊎_elim (λ a. by_access a) (λ x. by_operation x.op x.obj x.answer (answers x.op mine x.old x.new x.answer x.moves) x.makes) h.kind

    there : slice_get st1.threads mine ≡ Some h.after
    there = ap (λ ths. slice_get ths mine) h.threads ∙ slice_get-set_same st.threads mine h.after h.before h.stands

    others : (v : ℕ) → v ≢ mine → slice_get st1.threads v ≡ slice_get st.threads v
    others v ne = ap (λ ths. slice_get ths v) h.threads ∙ slice_get-set_other st.threads mine v h.after ne

    facts_after : Facts st1
    facts_after t told e = ⊎_elim
        (λ same. subst (λ (z : Told). Fact code valid s z.thread) (same_Some h.after told (sym there ∙ ap (slice_get st1.threads) (sym same) ∙ e)) own)
        (λ ne. facts t told (sym (others t ne) ∙ e))
        (cases_eq t mine)

  -- ---- all runs

  record Held (st : State Told) : Type 0 where
    reached : IsReachable code s st
    facts : Facts st

  pub facts_hold : (st : State Told) → IsReachable code s st → Facts st
  facts_hold st reached =
      (kept_along (machine code s) Held
      (λ a b l h e. record { reached = reaches_step (machine code s) (start_state code s) a b l h.reached e; facts = facts_after a b l h.reached (has_stepped code s a b l e) h.facts })
      reached.0 (start_state code s) st reached.1 (record { reached = ([], refl); facts = at_start })).facts

  module _ (st : State Told) (reached : IsReachable code s st) (t : ℕ) (told : Told) (at : slice_get st.threads t ≡ Some told) (runs : told.thread.phase ≡ phase.Running) where
    pub framed : Framed code valid s told.thread
    framed = facts_hold st reached t told at runs

    pub framed_settled : Framed code valid s (settled code s t told.thread)
    framed_settled =
        settles code valid s t told.thread (enters t told.thread ((roots_hold code valid s limits st reached).threads t told at)) (facts_hold st reached t told at)
        ((settled_keeps_all code s t told.thread).phase ∙ runs)

    pub stands_now : is_some (instr_at code told.thread.top) ≡ true
    stands_now = stands_at code told.thread.top framed.top.stands.at

    pub stands_settled : is_some (instr_at code (settled code s t told.thread).top) ≡ true
    stands_settled = stands_at code (settled code s t told.thread).top framed_settled.top.stands.at

  -- ---- where nothing comes next

  no_act : (o : Option Instr) → act_in o ≡ None → is_some o ≡ true → ⊥
  no_act None e h = cc
  no_act (Some i) e h = cc

  -- a thread to which no step comes has ended
  pub ended_at_last : (st : State Told) (reached : IsReachable code s st) (t : ℕ) (told : Told) → slice_get st.threads t ≡ Some told → next code s t told.thread ≡ action.Ended → has_ended told.thread.phase ≡ true
  ended_at_last st reached t told at e =
      let calm = settled code s t told.thread in
      let same = (settled_keeps_all code s t told.thread).phase in
      ⊎_elim
      (λ h. ap has_ended (sym same) ∙ h)
      (λ h. absurd (no_act (instr_at code calm.top) h.1 (stands_settled st reached t told at (sym same ∙ h.0))))
      (ended_action_is code s t calm e)
