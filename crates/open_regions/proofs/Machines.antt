-- In each state of the machine a thread is one of the states to which it may come from its beginning.
use Rattle.std.proofs.Common.{◌≡◌, ◌≢◌, ℕ, zero, suc, ⊎_elim, true, ℤ, pos, Some, refl, sym, ap, subst, ◌∙◌}
use Rattle.std.specs.Prelude.{slice_get}
use Rattle.std.proofs.lemmas.Bool.{cases_eq}
use Rattle.std.proofs.lemmas.Option.{same_Some}
use Rattle.rr_base.proofs.Lists.{slice_get-set_other, slice_get-set_same}
use Rattle.sync_objects.specs.Setup.{SetupView}
use Rattle.sync_objects.specs.declared.object.ObjId.{ObjId}
use Rattle.sync_objects.specs.declared.operation.Op.{Op}
use Rattle.flow_code.specs.declared.code.Code.{Code}
use Rattle.flow_code.specs.Next.{stepped as thread_stepped}
use Rattle.flow_code.specs.Settle.{settled}
use Rattle.flow_code.specs.Threads.{Thread}
use Rattle.flow_code.proofs.Settle.{settled_keeps}
use Rattle.core_run.specs.Histories.{IsReachable}
use Rattle.core_run.specs.Machine.{Told, machine, start_state}
use Rattle.thread_interpreter.specs.Starts.{start_phase, start_thread}
use Rattle.core_run.proofs.ThreadRanges.{start_thread_is}
use Rattle.run_theory.specs.Labels.{Label, label_thread}
use Rattle.run_theory.specs.Steps.{State}
use Rattle.run_theory.proofs.Kept.{kept_along}
use Rattle.guard_paths.specs.Reached.{is_early, Reached, starts, steps, loses, stops, shuts}
use Rattle.lock_ownership.proofs.Stepping.{Makes, by_itself, by_revoke, by_stop, by_close, HasStepped, has_stepped}

module _ (code : Code) (s : SetupView) where
  pub settled_reached : (t : ℕ) (th : Thread) → Reached code s t th → Reached code s t (settled code s t th)
  settled_reached t th r = settled_keeps code s t (λ q. Reached code s t q) (λ q e k. steps (pos 0) k) th r

  abbrev AllReached : State Told → Type 0
  AllReached st = (t : ℕ) (told : Told) → slice_get st.threads t ≡ Some told → Reached code s t told.thread

  start_early : (t : ℕ) → is_early (start_phase code t) ≡ true
  start_early zero = refl
  start_early (suc k) = refl

  at_start : AllReached (start_state code s)
  at_start t told e = subst (λ (z : Told). Reached code s t z.thread) (sym (start_thread_is code s t told e)) (starts {th = start_thread code s t} (start_early t) refl refl)

  module _ (st st1 : State Told) (l : Label) (h : HasStepped code s st l st1) (all : AllReached st) where
    before : Reached code s (label_thread l) h.before.thread
    before = all (label_thread l) h.before h.stands

    by_step : (answer : ℤ) → h.after.thread ≡ thread_stepped code s (label_thread l) (settled code s (label_thread l) h.before.thread) answer → Reached code s (label_thread l) h.after.thread
    by_step answer e = subst (λ q. Reached code s (label_thread l) q) (sym e) (steps answer (settled_reached (label_thread l) h.before.thread before))

    by_operation : (o : Op) (obj : ObjId) (answer : ℤ) → Makes code s l h.before.thread o obj answer h.after.thread → Reached code s (label_thread l) h.after.thread
    by_operation o obj answer (by_itself c) = by_step answer c.after
    by_operation o obj answer (by_revoke lock stripe may e g after) = subst (λ q. Reached code s (label_thread l) q) (sym after) (loses lock stripe before)
    by_operation o obj answer (by_stop may e g after) = subst (λ q. Reached code s (label_thread l) q) (sym after) (stops before)
    by_operation o obj answer (by_close may e g after) = subst (λ q. Reached code s (label_thread l) q) (sym after) (shuts before)

    own : Reached code s (label_thread l) h.after.thread
    own = ⊎_elim (λ a. by_step a.answer a.comes.after) (λ x. by_operation x.op x.obj x.answer x.makes) h.kind

    there : slice_get st1.threads (label_thread l) ≡ Some h.after
    there = ap (λ ths. slice_get ths (label_thread l)) h.threads ∙ slice_get-set_same st.threads (label_thread l) h.after h.before h.stands

    others : (v : ℕ) → v ≢ label_thread l → slice_get st1.threads v ≡ slice_get st.threads v
    others v ne = ap (λ ths. slice_get ths v) h.threads ∙ slice_get-set_other st.threads (label_thread l) v h.after ne

    all_after : AllReached st1
    all_after t told e =
        ⊎_elim
        (λ same. subst (λ v. Reached code s v told.thread) (sym same)
        (subst (λ (z : Told). Reached code s (label_thread l) z.thread) (same_Some h.after told (sym there ∙ ap (slice_get st1.threads) (sym same) ∙ e)) own))
        (λ ne. all t told (sym (others t ne) ∙ e))
        (cases_eq t (label_thread l))

  pub all_reached : (st : State Told) → IsReachable code s st → AllReached st
  all_reached st reached = kept_along (machine code s) AllReached (λ a b l h e. all_after a b l (has_stepped code s a b l e) h) reached.0 (start_state code s) st reached.1 at_start
