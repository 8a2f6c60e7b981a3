-- Each state that is reached with weak locks is followed by one that is reached without them.
use Rattle.std.proofs.Common.{◌≡◌, ℕ, zero, suc, ◌+◌, Bool, true, false, [], Some, refl, sym, ap, subst, ◌∙◌, arith}
use Rattle.std.specs.Prelude.{slice_get}
use Rattle.sync_objects.specs.Setup.{SetupView, IsWithinLimits}
use Rattle.word_semantics.specs.declared.event.Action.{Action}
use Rattle.flow_code.specs.declared.code.Code.{Code}
use Rattle.flow_code.specs.declared.thread.Phase.{Phase}
use Rattle.flow_code.specs.declared.thread.Phase.TheVariants as phase
use Rattle.flow_code.specs.Next.{act_at, action_of, has_ended}
use Rattle.flow_code.specs.Settle.{settled, next, IsRunnable}
use Rattle.flow_code.specs.Threads.{Thread}
use Rattle.flow_code.specs.Valid.{is_valid}
use Rattle.flow_code.proofs.Counts.{settled_keeps_all, ended_action}
use Rattle.flow_code.proofs.Runnable.{valid_runnable}
use Rattle.flow_code.proofs.Settle.{action_is, settled_quiet}
use Rattle.weak_code.specs.Stripped.{strip}
use Rattle.core_run.specs.Histories.{IsReachable}
use Rattle.core_run.specs.Machine.{Told, machine, start_told, start_threads_from, start_state}
use Rattle.core_run.proofs.ThreadRanges.{start_thread_is}
use Rattle.run_theory.specs.Steps.{State, Reaches}
use Rattle.run_theory.proofs.Kept.{kept_along, reaches_more}
use Rattle.erasure.proofs.ActDues.{steps_aside, not_weak}
use Rattle.erasure.proofs.Bare.{bare, bare_act, HasObjects}
use Rattle.erasure.proofs.Starts.{same_start, starts_placed}
use Rattle.erasure.proofs.ValidFronts.{valid_objects}
use Rattle.erased_states.specs.States.{IsPlainThread, IsPlainState, IsAccess, IsPlainAccess}
use Rattle.erased_states.proofs.PlainSteps.{IsFollowed, Follows, plain_step}
use Rattle.erased_states.proofs.PlainThreads.{Keeps, IsSame, Arrives, with_plain, on_stripe, full, settled_on, arrives, action_here, action_there}
use Rattle.erased_states.proofs.PlainWords.{start_same}
use Rattle.erased_states.proofs.Targets.{strip_runs}

module _ (w : Code) (objects : HasObjects w) (s : SetupView) (limits : IsWithinLimits s) (runnable : IsRunnable w) (runs : IsRunnable (strip w)) where
  -- ---- the start

  -- as many threads start in both
  both_start : (k n t : ℕ) (told : Told) → slice_get (start_threads_from w s k n) t ≡ Some told → (x : Told) × (slice_get (start_threads_from (strip w) s k n) t ≡ Some x)
  both_start k zero t told e = cc
  both_start k (suc n) zero told e = (start_told (strip w) s k, refl)
  both_start k (suc n) (suc t) told e = both_start (k + 1) n t told e

  start_followed : (t : ℕ) (told : Told) → slice_get (start_state w s).threads t ≡ Some told → IsFollowed w objects s limits runnable runs t told (start_state (strip w) s).threads
  start_followed t told e =
      let x = both_start 0 s.slots t told e in
      let x_is = start_thread_is (strip w) s t x.0 x.1 in
      let told_is = start_thread_is w s t told e in (
        x.0,
        x.1,
        subst (λ (z : Told). Keeps w objects s runs t z.thread x.0.thread) (sym told_is) (record {
          entries = 0;
          few = omega arith;
          placed = starts_placed w s t;
          settles = ap (λ (z : Told). settled (strip w) s t z.thread) x_is ∙ ap (settled (strip w) s t) (same_start w s t);
        }),
      )

  abbrev pub IsReached : State Told → Type 0
  IsReached st = (b : State Told) × IsReachable (strip w) s b × Follows w objects s limits runnable runs st b

  reached_step : (st st1 : State Told) (h : IsReached st) (m : (b1 : State Told) × Reaches (machine (strip w) s) h.0 b1 × Follows w objects s limits runnable runs st1 b1) → IsReached st1
  reached_step st st1 h m = (m.0, reaches_more (machine (strip w) s) (start_state (strip w) s) h.0 m.0 h.1 m.1, m.2)

  pub reached : (st : State Told) → IsReachable w s st → IsReached st
  reached st r =
      kept_along (machine w s) IsReached (λ a b l h e. reached_step a b h (plain_step w objects s limits runnable runs a b h.0 l h.2 e)) r.0 (start_state w s) st r.1
      (start_state (strip w) s, ([], refl), record { words = start_same w s limits; threads = λ t told e lives. start_followed t told e })

  -- ---- what is promised of it

  module _ (t : ℕ) (th m : Thread) where
    -- quiet steps change no phase
    same_phase : (e : ℕ) → settled (strip w) s t m ≡ settled (strip w) s t (bare w e th) → m.phase ≡ th.phase
    same_phase e h = sym (settled_keeps_all (strip w) s t m).phase ∙ ap (λ (z : Thread). z.phase) h ∙ (settled_keeps_all (strip w) s t (bare w e th)).phase

    plain_is : Keeps w objects s runs t th m → IsPlainThread w (strip w) s t th m
    plain_is k = record { entries = k.entries; few = k.few; phase = same_phase k.entries k.settles; settles = k.settles }

  pub plain_of_reached : (st : State Told) → IsReached st → (b : State Told) × IsReachable (strip w) s b × IsPlainState w (strip w) s st b
  plain_of_reached st h = (
    h.0,
    h.1,
    record {
      cells = h.2.words.cells;
      objects = h.2.words.objects;
      threads = λ t told e lives. let x = h.2.threads t told e lives in (x.0, x.1, plain_is t told.thread x.0.thread x.2);
    },
  )

  -- ---- accesses

  module _ (t : ℕ) (th : Thread) (a : Action) (access : IsAccess a) (comes : next w s t th ≡ a) where
    abbrev n : Thread
    n = settled w s t th

    lives : has_ended th.phase ≡ false
    lives = by (has_ended th.phase) refl
      where
        by : (b : Bool) → has_ended th.phase ≡ b → b ≡ false
        by true e =
            let over = ended_action w s t n (ap has_ended (settled_keeps_all w s t th).phase ∙ e) in
            absurd (subst IsAccess (sym comes ∙ over) access)
        by false e = refl

    running : (p : Phase) → p ≡ phase.Running → steps_aside w n p ≡ false → steps_aside w n phase.Running ≡ false
    running p e h = subst (λ z. steps_aside w n z ≡ false) e h

    same_access : (m : Thread) → th.phase ≡ m.phase → IsSame w objects s runs t n m → IsPlainAccess w (strip w) s t th m a
    same_access m same h = record {
      entries = h.entries;
      phase = sym same;
      settles = h.settles;
      comes = action_there w objects s runs t n m h ∙ sym (action_here w objects s runs t n m h) ∙ comes;
      stands = λ run. ap (λ (z : Thread). act_at (strip w) z.top) h.settles ∙ bare_act w n.top (not_weak n (act_at w n.top) (running n.phase ((settled_keeps_all w s t th).phase ∙ run) h.here));
    }

    arrived : (m : Thread) → th.phase ≡ m.phase → Arrives w objects s runs t n m → IsPlainAccess w (strip w) s t th m a
    arrived m same (with_plain h) = same_access m same h
    arrived m same (on_stripe h) = absurd (subst IsAccess (sym comes ∙ h.comes) access)
    arrived m same (full is) = absurd (subst IsAccess (sym comes ∙ action_is w s t n ∙ ap action_of is) access)

    -- a thread of a plain state, whichever it is
    pub access_of : (m : Thread) → Keeps w objects s runs t th m → IsPlainAccess w (strip w) s t th m a
    access_of m k = arrived m (sym (same_phase t th m k.entries k.settles)) (arrives w objects s runs t n m (settled_on w objects s runs t m th k) (settled_quiet w s t runnable th))

  pub access_in : (st b : State Told) (t : ℕ) (told : Told) (a : Action) → IsReached st → IsPlainState w (strip w) s st b → slice_get st.threads t ≡ Some told → IsAccess a → next w s t told.thread ≡ a →
      (x : Told) × (slice_get b.threads t ≡ Some x) × IsPlainAccess w (strip w) s t told.thread x.thread a
  access_in st b t told a h plain stands access comes =
      let alive = lives t told.thread a access comes in
      let known = (h.2.threads t told stands alive).2 in
      let x = plain.threads t told stands alive in
      let follows : Keeps w objects s runs t told.thread x.0.thread = record { entries = x.2.entries; few = x.2.few; placed = known.placed; settles = x.2.settles } in
      (x.0, x.1, access_of t told.thread a access comes x.0.thread follows)

-- ---- any valid code

module _ (code plain : Code) (s : SetupView) (limits : IsWithinLimits s) (valid : is_valid code ≡ true) (strips : strip code ≡ plain) where
  pub plain_state : (st : State Told) → IsReachable code s st → (b : State Told) × IsReachable plain s b × IsPlainState code plain s st b
  plain_state st r =
      let runnable = valid_runnable code valid in
      let objects = valid_objects code valid in
      let runs = strip_runs code runnable in
      subst (λ (p : Code). (b : State Told) × IsReachable p s b × IsPlainState code p s st b) strips (plain_of_reached code objects s limits runnable runs st (reached code objects s limits runnable runs st r))

  pub plain_access : (st b : State Told) (t : ℕ) (told : Told) (a : Action) → IsReachable code s st → IsPlainState code plain s st b → slice_get st.threads t ≡ Some told → IsAccess a → next code s t told.thread ≡ a →
      (x : Told) × (slice_get b.threads t ≡ Some x) × IsPlainAccess code plain s t told.thread x.thread a
  plain_access st b t told a r is stands access comes =
      let runnable = valid_runnable code valid in
      let objects = valid_objects code valid in
      let runs = strip_runs code runnable in
      subst (λ (p : Code). (x : Told) × (slice_get b.threads t ≡ Some x) × IsPlainAccess code p s t told.thread x.thread a) strips
      (access_in code objects s limits runnable runs st b t told a (reached code objects s limits runnable runs st r) (subst (λ (p : Code). IsPlainState code p s st b) (sym strips) is) stands access comes)
