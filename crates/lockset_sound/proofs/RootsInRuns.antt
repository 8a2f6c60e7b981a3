-- In each state that is reached the outermost frame of a thread is of a function with which it may begin.
use Rattle.std.proofs.Common.{◌≡◌, ◌≢◌, ℕ, zero, suc, ◌+◌, inl, inr, ⊎_elim, true, ℤ, [], Some, refl, sym, ap, subst, ◌∙◌, arith}
use Rattle.std.specs.Prelude.{slice_get}
use Rattle.std.proofs.lemmas.Bool.{cases_eq}
use Rattle.std.proofs.lemmas.Option.{same_Some, get_or_from_slice_get}
use Rattle.rr_base.proofs.Lists.{slice_get-set_other, slice_get-set_same}
use Rattle.sync_objects.specs.Setup.{SetupView, IsWithinLimits}
use Rattle.sync_objects.specs.Names.{name_of, kind_of, object_kind}
use Rattle.sync_objects.specs.Packing.{shown}
use Rattle.sync_objects.specs.Start.{start_word}
use Rattle.sync_objects.specs.States.{Begun, Idle, Started}
use Rattle.sync_objects.specs.Words.{word_of}
use Rattle.sync_objects.proofs.Starts.{starts-first_slot, starts-other_slot}
use Rattle.sync_objects.specs.Table.{Moves, first_row, rows}
use Rattle.sync_objects.specs.declared.kind.ObjKind.TheVariants as kind
use Rattle.sync_objects.specs.declared.object.ObjId.{ObjId}
use Rattle.sync_objects.specs.declared.object.ObjId.TheVariants as object
use Rattle.sync_objects.specs.declared.operation.Op.{Op}
use Rattle.sync_objects.specs.declared.operation.Op.TheVariants as op
use Rattle.word_semantics.specs.Library.{count_in}
use Rattle.word_semantics.specs.declared.event.Action.TheVariants as action
use Rattle.word_semantics.specs.declared.event.Due.{Due}
use Rattle.word_semantics.specs.declared.event.Due.TheVariants as due
use Rattle.flow_code.specs.declared.code.Code.{Code}
use Rattle.flow_code.specs.declared.thread.Phase.TheVariants as phase
use Rattle.flow_code.specs.Next.{action_of, due_of, stepped as thread_stepped}
use Rattle.flow_code.specs.Settle.{settled, IsRunnable}
use Rattle.flow_code.specs.Threads.{Thread, is_main}
use Rattle.flow_code.specs.Valid.{is_valid}
use Rattle.flow_code.proofs.Counts.{IsAccessAction, settled_keeps_all}
use Rattle.flow_code.proofs.Dues.{operate_by_code}
use Rattle.flow_code.proofs.Runnable.{valid_runnable}
use Rattle.flow_code.proofs.Settle.{action_is}
use Rattle.core_run.specs.Histories.{IsReachable}
use Rattle.core_run.specs.Machine.{Told, machine, start_state, start_threads_from, start_told}
use Rattle.thread_interpreter.specs.Starts.{main_of}
use Rattle.core_run.specs.Words.{cells_of, has_object, place_of, start_words}
use Rattle.core_run.proofs.Beginnings.{start_word_at}
use Rattle.run_theory.specs.Labels.{Label, label_thread}
use Rattle.run_theory.specs.Ordered.{event_of}
use Rattle.run_theory.specs.Steps.{State}
use Rattle.run_theory.proofs.Kept.{kept_along, reaches_step}
use Rattle.lock_ownership.specs.Holders.{word_of_object}
use Rattle.lock_ownership.proofs.ObjectSteps.{ObjectStep, object_step, row_here, made_fits}
use Rattle.lock_ownership.proofs.Stepping.{Makes, by_itself, by_revoke, by_stop, by_close, IsAccessStep, IsOperationStep, HasStepped, has_stepped}
use Rattle.lockset_sound.proofs.Roots.{root_of, IsThread, phase_starts}
use Rattle.lockset_sound.proofs.RootSteps.{RootOf, ThreadRoot, Answered, alike, stepped_root, settled_root, stopped_root, slot_in, started_by, begun_by, main_is}
use Rattle.lockset_sound.proofs.Starts.{DueStarts}

module _ (code : Code) (valid : is_valid code ≡ true) (s : SetupView) (limits : IsWithinLimits s) where
  pub record Roots (st : State Told) : Type 0 where
    pub slots : (k f : ℕ) → has_object code s (object.Slot k) ≡ true → slot_in (word_of_object code s (object.Slot k) st) ≡ Started f → IsThread code f
    pub threads : (t : ℕ) (told : Told) → slice_get st.threads t ≡ Some told → ThreadRoot code t told.thread

  run_ok : IsRunnable code
  run_ok = valid_runnable code valid

  -- ---- the start

  start_at : (k n t : ℕ) (told : Told) → slice_get (start_threads_from code s k n) t ≡ Some told → told ≡ start_told code s (k + t)
  start_at k zero t told e = cc
  start_at k (suc n) zero told e = let same : k ≡ k + 0 = omega arith in sym (same_Some (start_told code s k) told e) ∙ ap (start_told code s) same
  start_at k (suc n) (suc t) told e = let same : k + 1 + t ≡ k + suc t = omega arith in start_at (k + 1) n t told e ∙ ap (start_told code s) same

  start_root : (t : ℕ) → ThreadRoot code t (start_told code s t).thread
  start_root zero = record { fresh = λ g z. cc; begun = λ f g. (let same : main_of code ≡ f = cc in inl (refl, ap (is_main code) (sym same) ∙ main_is code valid)); loaded = λ f w g. cc; running = λ g. cc }
  start_root (suc k) = record { fresh = λ g z. cc; begun = λ f g. cc; loaded = λ f w g. cc; running = λ g. cc }

  start_slot : (k f : ℕ) → has_object code s (object.Slot k) ≡ true → slot_in (word_of_object code s (object.Slot k) (start_state code s)) ≡ Started f → IsThread code f
  start_slot k f has e = by k (sym (ap slot_in (get_or_from_slice_get (start_words code s) (place_of (cells_of code s) (object.Slot k)) (start_word (object.Slot k)) 0 (start_word_at code s (object.Slot k) limits has))) ∙ e)
    where
      begun : slot_in (word_of 0 2) ≡ Begun
      begun = refl

      idle : slot_in (word_of 0 0) ≡ Idle
      idle = refl

      by : (j : ℕ) → slot_in (start_word (object.Slot j)) ≡ Started f → IsThread code f
      by zero g = (let clash : Begun ≡ Started f = sym begun ∙ sym (ap (λ n. slot_in (word_of 0 n)) starts-first_slot) ∙ g in cc)
      by (suc j) g = (let clash : Idle ≡ Started f = sym idle ∙ sym (ap (λ n. slot_in (word_of 0 n)) (starts-other_slot (suc j) (λ z. cc))) ∙ g in cc)

  -- ---- one step

  no_answer : (d : Due) (answer : ℤ) → IsAccessAction (action_of d) → Answered code d answer
  no_answer (due.Operate o obj) answer a = absurd a
  no_answer _ answer a = tt

  operated : (d : Due) (o : Op) (obj : ObjId) (answer : ℤ) → action_of d ≡ action.Operate o obj → (o ≡ op.Begin → IsThread code (count_in answer)) → Answered code d answer
  operated (due.Operate op.Begin q) o obj answer e h = h cc
  operated _ o obj answer e h = tt

  -- a start that is due is of a function that the code starts
  starts : (t : ℕ) (th : Thread) (f : ℕ) (obj : ObjId) → action_of (due_of code s t th) ≡ action.Operate (op.Start f) obj → IsThread code f
  starts t th f obj e = by (due_of code s t th) refl e
    where
      found : (o : Op) (q : ObjId) → due_of code s t th ≡ due.Operate o q → o ≡ op.Start f → IsThread code f
      found o q g is =
          ⊎_elim
          (λ r. subst (DueStarts (IsThread code)) (r.0 ∙ ap (λ z. due.Operate z q) is) (phase_starts code valid s t th th.phase))
          (λ r. (let clash : op.Retake ≡ op.Start f = sym r.1 ∙ is in cc))
          (operate_by_code code s t th o q g)

      by : (d : Due) → due_of code s t th ≡ d → action_of d ≡ action.Operate (op.Start f) obj → IsThread code f
      by due.Nothing g h = cc
      by due.Quiet g h = cc
      by (due.Load c) g h = cc
      by (due.Store c w) g h = cc
      by due.Mark g h = cc
      by (due.Operate o q) g h = found o q g cc
      by (due.Trap kind) g h = (let clash : op.TrapHere ≡ op.Start f = cc in cc)

  slot_of_kind : (o : ObjId) → kind.Slot ≡ object_kind o → (k : ℕ) × (o ≡ object.Slot k)
  slot_of_kind (object.Slot k) e = (k, refl)
  slot_of_kind _ e = cc

  module _ (st st1 : State Told) (l : Label) (reached : IsReachable code s st) (h : HasStepped code s st l st1) (roots : Roots st) where
    abbrev calm : Thread
    calm = settled code s (label_thread l) h.before.thread

    before : ThreadRoot code (label_thread l) h.before.thread
    before = roots.threads (label_thread l) h.before h.stands

    own_goes : (answer : ℤ) → Answered code (due_of code s (label_thread l) calm) answer → h.after.thread ≡ thread_stepped code s (label_thread l) calm answer → ThreadRoot code (label_thread l) h.after.thread
    own_goes answer a e = subst (ThreadRoot code (label_thread l)) (sym e) (stepped_root code s (label_thread l) calm answer a (settled_root code s (label_thread l) h.before.thread before))

    begins : (x : IsOperationStep code s st.words st1.words (event_of (machine code s) st l) l h.before.thread h.after.thread) → x.op ≡ op.Begin → IsThread code (count_in x.answer)
    begins x e =
        let fits : kind.Slot ≡ object_kind x.obj = sym (ap (λ o. kind_of (name_of o)) e) ∙ (made_fits code s l h.before.thread x.op x.obj x.answer h.after.thread run_ok limits x.makes).0 in
        let k = slot_of_kind x.obj fits in
        let has = subst (λ o. has_object code s o ≡ true) k.1 x.has in
        let row = row_here code s (object.Slot k.0) run_ok limits has st st1 l reached h x k.1 in
        let at = subst (λ o. first_row (rows o (label_thread l)) (shown (kind_of (name_of o)) (word_of_object code s (object.Slot k.0) st)) ≡ Moves (shown (kind_of (name_of o)) (word_of_object code s (object.Slot k.0) st1)) x.answer) e row in
        begun_by code (label_thread l) x.answer (word_of_object code s (object.Slot k.0) st) (word_of_object code s (object.Slot k.0) st1) at (λ f g. roots.slots k.0 f has g)

    own_root : ThreadRoot code (label_thread l) h.after.thread
    own_root = ⊎_elim by_access by_operation h.kind
      where
        by_access : IsAccessStep code s st.words st1.words (event_of (machine code s) st l) l h.before.thread h.after.thread → ThreadRoot code (label_thread l) h.after.thread
        by_access a = own_goes a.answer (no_answer (due_of code s (label_thread l) calm) a.answer (subst IsAccessAction (sym a.comes.comes ∙ action_is code s (label_thread l) calm) a.is_access)) a.comes.after

        made : (o : Op) (obj : ObjId) (answer : ℤ) → (o ≡ op.Begin → IsThread code (count_in answer)) → Makes code s l h.before.thread o obj answer h.after.thread → ThreadRoot code (label_thread l) h.after.thread
        made o obj answer b (by_itself c) = own_goes answer (operated (due_of code s (label_thread l) calm) o obj answer (sym (action_is code s (label_thread l) calm) ∙ c.comes) b) c.after
        made o obj answer b (by_revoke lock stripe may e g after) = subst (ThreadRoot code (label_thread l)) (sym after) (alike code s (label_thread l) h.before.thread _ refl refl before)
        made o obj answer b (by_stop may e g after) = subst (ThreadRoot code (label_thread l)) (sym after) (stopped_root code s (label_thread l) _ refl)
        made o obj answer b (by_close may e g after) = subst (ThreadRoot code (label_thread l)) (sym after) (stopped_root code s (label_thread l) _ refl)

        by_operation : (x : IsOperationStep code s st.words st1.words (event_of (machine code s) st l) l h.before.thread h.after.thread) → ThreadRoot code (label_thread l) h.after.thread
        by_operation x = made x.op x.obj x.answer (begins x) x.makes

    slots_after : (k f : ℕ) → has_object code s (object.Slot k) ≡ true → slot_in (word_of_object code s (object.Slot k) st1) ≡ Started f → IsThread code f
    slots_after k f has e = by (object_step code s (object.Slot k) run_ok limits has st st1 l reached h)
      where
        made : (o : Op) (answer : ℤ) (th q : Thread) → th ≡ h.before.thread → o ≡ op.Start f → Makes code s l th o (object.Slot k) answer q → IsThread code f
        made o answer th q same is (by_itself c) = starts (label_thread l) (settled code s (label_thread l) th) f (object.Slot k) (sym (action_is code s (label_thread l) (settled code s (label_thread l) th)) ∙ c.comes ∙ ap (λ z. action.Operate z (object.Slot k)) is)
        made o answer th q same is (by_revoke lock stripe may g i after) = (let clash : op.Revoke ≡ op.Start f = sym g ∙ is in cc)
        made o answer th q same is (by_stop may g i after) = (let clash : op.Stop ≡ op.Start f = sym g ∙ is in cc)
        made o answer th q same is (by_close may g i after) = (let clash : op.Close ≡ op.Start f = sym g ∙ is in cc)

        by : ObjectStep code s (object.Slot k) st l st1 → IsThread code f
        by (inl a) = roots.slots k f has (sym (ap slot_in a.same) ∙ e)
        by (inr x) =
            ⊎_elim
            (λ g. roots.slots k f has g)
            (λ is. made x.operation x.answer x.before.thread x.after.thread (ap (λ (z : Told). z.thread) (same_Some x.before h.before (sym x.stands ∙ h.stands))) is x.makes)
            (started_by x.operation (label_thread l) f x.answer (word_of_object code s (object.Slot k) st) (word_of_object code s (object.Slot k) st1) x.fits x.row e)

    there : slice_get st1.threads (label_thread l) ≡ Some h.after
    there = ap (λ ths. slice_get ths (label_thread l)) h.threads ∙ slice_get-set_same st.threads (label_thread l) h.after h.before h.stands

    others : (v : ℕ) → v ≢ label_thread l → slice_get st1.threads v ≡ slice_get st.threads v
    others v ne = ap (λ ths. slice_get ths v) h.threads ∙ slice_get-set_other st.threads (label_thread l) v h.after ne

    roots_after : Roots st1
    roots_after = record {
      slots = slots_after;
      threads = λ t told e. ⊎_elim
          (λ same. subst (λ v. ThreadRoot code v told.thread) (sym same) (subst (λ (z : Told). ThreadRoot code (label_thread l) z.thread) (same_Some h.after told (sym there ∙ ap (slice_get st1.threads) (sym same) ∙ e)) own_root))
          (λ ne. roots.threads t told (sym (others t ne) ∙ e))
          (cases_eq t (label_thread l));
    }

  -- ---- all runs

  record Held (st : State Told) : Type 0 where
    reached : IsReachable code s st
    roots : Roots st

  pub roots_hold : (st : State Told) → IsReachable code s st → Roots st
  roots_hold st reached =
      (kept_along (machine code s) Held
      (λ a b l h e. record { reached = reaches_step (machine code s) (start_state code s) a b l h.reached e; roots = roots_after a b l h.reached (has_stepped code s a b l e) h.roots })
      reached.0 (start_state code s) st reached.1 (record {
        reached = ([], refl);
        roots = record {
          slots = start_slot;
          threads = λ t told e. (let is = start_at 0 s.slots t told e in let same : 0 + t ≡ t = omega arith in subst (λ (z : Told). ThreadRoot code t z.thread) (sym (is ∙ ap (start_told code s) same)) (start_root t));
        };
      })).roots

  module _ (st : State Told) (t : ℕ) (told : Told) (reached : IsReachable code s st) (e : slice_get st.threads t ≡ Some told) (running : told.thread.phase ≡ phase.Running) where
    pub root_now : RootOf code t (root_of told.thread)
    root_now = ((roots_hold st reached).threads t told e).running running

    pub root_settled : RootOf code t (root_of (settled code s t told.thread))
    root_settled = (settled_root code s t told.thread ((roots_hold st reached).threads t told e)).running ((settled_keeps_all code s t told.thread).phase ∙ running)
