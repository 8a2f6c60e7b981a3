-- Each entry fits its object, and a revoke comes within the limit, where threads beyond it hold no stripes.
use Rattle.std.proofs.Common.{◌≡◌, ℕ, ◌≤◌, ⊎_elim, Bool, true, false, if◌then◌else◌, nat_lt, List, [], Some, refl, sym, ap, subst, ◌∙◌, ℤ}
use Rattle.std.specs.Prelude.{slice_get, slice_set}
use Rattle.std.proofs.lemmas.Bool.{cases_eq, true≢false}
use Rattle.std.proofs.lemmas.Option.{same_Some}
use Rattle.rr_base.proofs.Lists.{slice_get-set_other, slice_get-set_same}
use Rattle.sync_objects.specs.Setup.{SetupView}
use Rattle.sync_objects.specs.Names.{name_of, Fits}
use Rattle.sync_objects.specs.declared.entry.Entry.{Entry}
use Rattle.sync_objects.specs.declared.entry.Noted.{Noted}
use Rattle.sync_objects.specs.declared.object.ObjId.{ObjId}
use Rattle.sync_objects.specs.declared.object.ObjId.TheVariants as object
use Rattle.sync_objects.specs.declared.operation.Op.{Op}
use Rattle.sync_objects.specs.declared.operation.Op.TheVariants as op
use Rattle.sync_objects.specs.declared.operation.OpName.TheVariants as name
use Rattle.word_semantics.specs.declared.event.Action.{Action}
use Rattle.word_semantics.specs.declared.event.Action.TheVariants as action
use Rattle.word_semantics.proofs.Calls.{is_from_outside}
use Rattle.flow_code.specs.declared.code.Code.{Code}
use Rattle.flow_code.specs.Next.{stepped as thread_stepped, action_at, gave_up, stopped, slot_closed}
use Rattle.flow_code.specs.Settle.{settled, IsRunnable}
use Rattle.flow_code.specs.Threads.{Thread}
use Rattle.flow_code.proofs.Asked.{own_action}
use Rattle.core_run.specs.Histories.{IsReachable}
use Rattle.core_run.specs.Words.{cells_of, has_object}
use Rattle.thread_interpreter.specs.Pieces.{piece_next}
use Rattle.core_run.specs.Machine.{Told, operation, action_effect, may_revoke, may_stop, may_close, effect_of, machine, start_state}
use Rattle.core_run.proofs.Lawful.{effect_go, effect_revoke, effect_stop, effect_close}
use Rattle.core_run.proofs.ThreadRanges.{start_thread_is}
use Rattle.core_run.proofs.Told.{effect_tells, outcome_tells}
use Rattle.run_theory.specs.Labels.{Label, Go, Revoke, Stop, Close, label_thread}
use Rattle.run_theory.specs.Steps.{Effect, Refused, Marks, Loads, Stores, Operates, State, stepped, effect_entry}
use Rattle.run_theory.proofs.Kept.{kept_along, reaches_step}
use Rattle.run_theory.proofs.Lists.{AllIn, AllIn-append}
use Rattle.run_theory.proofs.Swap.{steps_of}

-- the entry fits its object, and comes within the limit if it is a revoke
pub record IsFitting (s : SetupView) (e : Entry) : Type 0 where
  pub fits : Fits e.op e.obj
  pub revoked : e.op ≡ name.Revoke → e.count ≤ s.limit

-- a stripe is revoked only from a thread within the limit
abbrev pub IsRevokedEarly : SetupView → Thread → Type 0
IsRevokedEarly s th = (lock stripe : ℕ) → may_revoke th lock stripe ≡ true → th.count ≤ s.limit

module _ (code : Code) (s : SetupView) where
  -- ---- one effect

  abbrev IsFittingEffect : Effect Told → Type 0
  IsFittingEffect (Operates e change) = IsFitting s e
  IsFittingEffect _ = Unit {0}

  if_fitting : (b : Bool) (e : Effect Told) → (b ≡ true → IsFittingEffect e) → IsFittingEffect (if b then e else Refused)
  if_fitting true e h = h refl
  if_fitting false e h = tt

  operation_fitting : (t : ℕ) (told : Told) (o : Op) (obj : ObjId) (printed : List (List ℕ)) (after : ℤ → Thread) → Fits (name_of o) obj → (name_of o ≡ name.Revoke → told.thread.count ≤ s.limit) → IsFittingEffect (operation code s t told o obj printed after)
  operation_fitting t told o obj printed after fits early = if_fitting (has_object code s obj) _ (λ has. record { fits = fits; revoked = early })

  action_fitting : IsRunnable code → (t : ℕ) (told : Told) (st : Thread) (a : Action) → action_at code s t st ≡ a → IsFittingEffect (action_effect code s t told st a)
  action_fitting run t told st action.Quiet e = tt
  action_fitting run t told st (action.Load c) e = if_fitting (nat_lt c (cells_of code s)) _ (λ lt. tt)
  action_fitting run t told st (action.Store c w) e = if_fitting (nat_lt c (cells_of code s)) _ (λ lt. tt)
  action_fitting run t told st action.Mark e = tt
  action_fitting run t told st (action.Operate o obj) e =
      let own = own_action code s t st o obj run e in
      operation_fitting t (record told { thread = st }) o obj (piece_next code st o) (λ answer. thread_stepped code s t st answer) own.fits (λ q. absurd (true≢false (sym (ap is_from_outside q) ∙ own.own)))
  action_fitting run t told st action.Ended e = tt

  effect_fitting : IsRunnable code → (l : Label) (told : Told) → IsRevokedEarly s told.thread → IsFittingEffect (effect_of code s l told)
  effect_fitting run (Go t) told early =
      subst IsFittingEffect (sym (effect_go code s t told)) (action_fitting run t told (settled code s t told.thread) (action_at code s t (settled code s t told.thread)) refl)
  effect_fitting run (Revoke t lock stripe) told early =
      subst IsFittingEffect (sym (effect_revoke code s t lock stripe told))
      (if_fitting (may_revoke told.thread lock stripe) _ (λ may. operation_fitting t told op.Revoke (object.Weak lock stripe) [] (λ answer. gave_up told.thread lock stripe) refl (λ e. early lock stripe may)))
  effect_fitting run (Stop t) told early =
      subst IsFittingEffect (sym (effect_stop code s t told))
      (if_fitting (may_stop told.thread) _ (λ may. operation_fitting t told op.Stop object.Halt [] (λ answer. stopped told.thread) refl (λ e. cc)))
  effect_fitting run (Close t) told early =
      subst IsFittingEffect (sym (effect_close code s t told))
      (if_fitting (may_close told.thread) _ (λ may. operation_fitting t told op.Close (object.Slot t) [] (λ answer. slot_closed told.thread) refl (λ e. cc)))

  abbrev AllFitting : List Noted → Type 0
  AllFitting xs = AllIn (λ x. IsFitting s x.entry) xs

  added_fitting : (words : List ℕ) (e : Effect Told) → IsFittingEffect e → AllFitting (effect_entry (machine code s) words e)
  added_fitting words Refused h = tt
  added_fitting words (Marks told) h = tt
  added_fitting words (Loads c next) h = tt
  added_fitting words (Stores c w told) h = tt
  added_fitting words (Operates e change) h = (h, tt)

  -- ---- along a run

  abbrev AreFitting : List Told → Type 0
  AreFitting threads = (t : ℕ) (told : Told) → slice_get threads t ≡ Some told → AllFitting told.entries

  set_fitting : (threads : List Told) (t : ℕ) (before after : Told) → slice_get threads t ≡ Some before → AllFitting after.entries → AreFitting threads → AreFitting (slice_set threads t after)
  set_fitting threads t before after at h k u told e =
      ⊎_elim
      (λ same. subst (λ (z : Told). AllFitting z.entries) (same_Some after told (sym (slice_get-set_same threads t after before at) ∙ ap (slice_get (slice_set threads t after)) (sym same) ∙ e)) h)
      (λ ne. k u told (sym (slice_get-set_other threads t u after ne) ∙ e))
      (cases_eq u t)

  -- in each state that can be reached stripes are revoked only within the limit
  abbrev pub AreRevokedEarly : Type 0
  AreRevokedEarly = (st : State Told) → IsReachable code s st → (t : ℕ) (told : Told) → slice_get st.threads t ≡ Some told → IsRevokedEarly s told.thread

  record Holds (st : State Told) : Type 0 where
    reached : IsReachable code s st
    fitting : AreFitting st.threads

  step_fitting : IsRunnable code → AreRevokedEarly → (st st1 : State Told) (l : Label) → Holds st → stepped (machine code s) st l ≡ Some st1 → Holds st1
  step_fitting run early st st1 l h e =
      let x = steps_of (machine code s) st l st1 e in
      let o = outcome_tells code s (label_thread l) st.words x.words (effect_of code s l x.before) x.before x.after (effect_tells code s l x.before) x.leaves in
      let old = h.fitting (label_thread l) x.before x.stands in
      let new = added_fitting st.words (effect_of code s l x.before) (effect_fitting run l x.before (early st h.reached (label_thread l) x.before x.stands)) in
      record {
        reached = reaches_step (machine code s) (start_state code s) st st1 l h.reached e;
        fitting = subst AreFitting (sym (ap (λ (z : State Told). z.threads) x.to))
            (set_fitting st.threads (label_thread l) x.before x.after x.stands
            (subst AllFitting (sym o.0) (AllIn-append (λ y. IsFitting s y.entry) x.before.entries (effect_entry (machine code s) st.words (effect_of code s l x.before)) old new)) h.fitting);
      }

  start_fitting : AreFitting (start_state code s).threads
  start_fitting t told e = subst (λ (z : Told). AllFitting z.entries) (sym (start_thread_is code s t told e)) tt

  -- so are the entries of each thread of a state that can be reached
  pub all_fitting : IsRunnable code → AreRevokedEarly → (st : State Told) → IsReachable code s st → (t : ℕ) (told : Told) → slice_get st.threads t ≡ Some told → AllIn (λ x. IsFitting s x.entry) told.entries
  all_fitting run early st reached =
      (kept_along (machine code s) Holds (λ a b l h e. step_fitting run early a b l h e) reached.0 (start_state code s) st reached.1 (record { reached = ([], refl); fitting = start_fitting })).fitting
