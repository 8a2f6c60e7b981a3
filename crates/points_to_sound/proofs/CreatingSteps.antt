-- Each step of a thread and its creation; and a thread is started only by the one that has created it.
use Rattle.std.proofs.Common.{◌≡◌, ℕ, zero, suc, ◌+◌, ◌==◌, nat_le, ◌⊎◌, inl, inr, ⊎_elim, Bool, true, false, if◌then◌else◌, List, [], ◌∷◌, length, Option, Some, None, Result, Ok, Err, refl, sym, ap, subst, ◌∙◌, ℤ, pos}
use Rattle.rr_base.specs.declared.trap.Trap.{Trap}
use Rattle.rr_base.specs.declared.trap.Trap.TheVariants as trap
use Rattle.rr_base.specs.declared.layout.CellKind.{CellKind}
use Rattle.rr_base.specs.declared.layout.CellKind.TheVariants as kind
use Rattle.sync_objects.specs.Setup.{SetupView}
use Rattle.sync_objects.specs.declared.object.ObjId.{ObjId}
use Rattle.sync_objects.specs.declared.object.ObjId.TheVariants as object
use Rattle.sync_objects.specs.declared.operation.Op.{Op}
use Rattle.sync_objects.specs.declared.operation.Op.TheVariants as op
use Rattle.word_semantics.specs.Cells.{result_cell, size_of, access_kind, is_size, cells_in}
use Rattle.word_semantics.specs.Library.{Caller, argument, slot_in, count_in, is_misuse, is_serial, is_joinable, join_thread_due, at_cell, cell_of, create_due, join_due, exit_due, mutex_due, rwlock_due, wait_due_at, print_due, most_printed, printed_piece, library_due}
use Rattle.word_semantics.specs.Limits.{most_frames}
use Rattle.word_semantics.specs.Pointers.{resolved}
use Rattle.word_semantics.specs.Registers.{register, words_of}
use Rattle.word_semantics.specs.Values.{number, word}
use Rattle.word_semantics.specs.declared.event.Due.{Due}
use Rattle.word_semantics.specs.declared.event.Due.TheVariants as due
use Rattle.word_semantics.specs.declared.library_call.LibraryCall.{LibraryCall}
use Rattle.word_semantics.specs.declared.library_call.LibraryCall.TheVariants as call
use Rattle.flow_code.specs.declared.act.Act.{Act}
use Rattle.flow_code.specs.declared.act.Act.TheVariants as act
use Rattle.flow_code.specs.declared.code.Code.{Code}
use Rattle.flow_code.specs.declared.thread.Phase.{Phase}
use Rattle.flow_code.specs.declared.thread.Phase.TheVariants as phase
use Rattle.flow_code.specs.declared.thread.Stripe.{Stripe}
use Rattle.flow_code.specs.Holding.{region_of, lacked, take_or_quiet, to_give, give_or_quiet, owes, parting, parting_due}
use Rattle.flow_code.specs.Next.{value_of, act_at, pointers_of, quiet_unless, load_due, store_due, mark_if, enter_due, end_due, caller, act_due, begun_due, phase_due, phase_after, due_of, counted, one_more, after_due, stepped}
use Rattle.flow_code.specs.Threads.{Thread, is_main, arena_end, objects_in, fitted}
use Rattle.flow_code.specs.Works.{is_pointer, work_of}
use Rattle.flow_code.proofs.Counts.{stepped_is, operate_after}
use Rattle.flow_code.proofs.Dues.{quiet_by_code, access_by_code, operate_by_code}
use Rattle.flow_code.proofs.Goings.{thread_goes}
use Rattle.points_to_sound.specs.Creations.{creation}
use Rattle.points_to_sound.proofs.Creating.{IsLive, Creates, none, stays, draws, hands, creating_at, phase_creates}

-- ---- each step

module _ (code : Code) (s : SetupView) (t : ℕ) (th : Thread) where
  same_creates : (q p : Thread) (d : Due) (answer : ℤ) → creation code p ≡ creation code q → Creates code s th q d answer → Creates code s th p d answer
  same_creates q p d answer e (none n) = none (e ∙ n)
  same_creates q p d answer e (stays n ns) = stays (e ∙ n) ns
  same_creates q p d answer e (draws f is ne n) = draws f is ne (e ∙ n)
  same_creates q p d answer e (hands slot f w was is n) = hands slot f w was is (e ∙ n)

  by_code : (d : Due) (answer : ℤ) → phase_due code s t th th.phase ≡ d → IsLive d → Creates code s th (phase_after code s t th th.phase answer) d answer
  by_code d answer e live = subst (λ y. Creates code s th (phase_after code s t th th.phase answer) y answer) e (phase_creates code s t th th.phase answer refl (subst IsLive (sym e) live))

  retakes : (o : Op) (obj : ObjId) (f : ℕ) (x : ObjId) → o ≡ op.Retake → due.Operate o obj ≡ due.Operate (op.Start f) x → ⊥
  retakes o obj f x e z = cc

  operates : (o : Op) (obj : ObjId) (answer : ℤ) → due_of code s t th ≡ due.Operate o obj → Creates code s th (after_due code s t th (due.Operate o obj) answer) (due.Operate o obj) answer
  operates o obj answer e =
      ⊎_elim
      (λ p.
      let first = (thread_goes code s t th (due.Operate o obj) answer p.0).0.first in
      subst (λ q. Creates code s th q (due.Operate o obj) answer) (sym (operate_after code s t th o obj answer first))
      (same_creates (phase_after code s t th th.phase answer) (counted o (phase_after code s t th th.phase answer)) (due.Operate o obj) answer refl (by_code (due.Operate o obj) answer p.0 tt)))
      (λ r. subst (λ z. Creates code s th (after_due code s t th (due.Operate z obj) answer) (due.Operate o obj) answer) (sym r.1) (stays refl (λ f x z. retakes o obj f x r.1 z)))
      (operate_by_code code s t th o obj e)

  due_creates : (d : Due) (answer : ℤ) → due_of code s t th ≡ d → (d ≡ due.Nothing → ⊥) → Creates code s th (after_due code s t th d answer) d answer
  due_creates due.Nothing answer e n = absurd (n refl)
  due_creates due.Quiet answer e n = by_code due.Quiet answer (quiet_by_code code s t th e) tt
  due_creates (due.Load c) answer e n = same_creates (phase_after code s t th th.phase answer) (one_more (phase_after code s t th th.phase answer)) (due.Load c) answer refl (by_code (due.Load c) answer (access_by_code code s t th (due.Load c) tt e).0 tt)
  due_creates (due.Store c v) answer e n = same_creates (phase_after code s t th th.phase answer) (one_more (phase_after code s t th th.phase answer)) (due.Store c v) answer refl (by_code (due.Store c v) answer (access_by_code code s t th (due.Store c v) tt e).0 tt)
  due_creates due.Mark answer e n = same_creates (phase_after code s t th th.phase answer) (one_more (phase_after code s t th th.phase answer)) due.Mark answer refl (by_code due.Mark answer (access_by_code code s t th due.Mark tt e).0 tt)
  due_creates (due.Operate o obj) answer e n = operates o obj answer e
  due_creates (due.Trap kind) answer e n = none refl

  pub step_creates : (answer : ℤ) → (due_of code s t th ≡ due.Nothing → ⊥) → Creates code s th (stepped code s t th answer) (due_of code s t th) answer
  step_creates answer n = subst (λ q. Creates code s th q (due_of code s t th) answer) (sym (stepped_is code s t th (due_of code s t th) answer refl)) (due_creates (due_of code s t th) answer refl n)

  -- by a quiet step no creation comes about
  quiet_creates : (d : Due) (answer : ℤ) (q : Thread) → d ≡ due.Quiet → Creates code s th q d answer → (creation code q ≡ None) ⊎ (creation code q ≡ creation code th)
  quiet_creates d answer q e (none n) = inl n
  quiet_creates d answer q e (stays n ns) = inr n
  quiet_creates d answer q e (draws f is ne n) = cc
  quiet_creates d answer q e (hands slot f w was is n) = cc

  pub quiet_creation : due_of code s t th ≡ due.Quiet → (creation code (stepped code s t th (pos 0)) ≡ None) ⊎ (creation code (stepped code s t th (pos 0)) ≡ creation code th)
  quiet_creation e = quiet_creates (due_of code s t th) (pos 0) (stepped code s t th (pos 0)) e (step_creates (pos 0) (λ n. differ (sym e ∙ n)))
    where
      differ : due.Quiet ≡ due.Nothing → ⊥
      differ e = cc

-- ---- what starts a thread

abbrev pub IsStart : Due → ℕ → ObjId → Type 0
IsStart d f obj = d ≡ due.Operate (op.Start f) obj

no_start_if : (b : Bool) (d e : Due) (f : ℕ) (obj : ObjId) → (IsStart d f obj → ⊥) → (IsStart e f obj → ⊥) → IsStart (if b then d else e) f obj → ⊥
no_start_if true d e f obj g h i = g i
no_start_if false d e f obj g h i = h i

no_start_at : (r : Result ℕ Trap) (d : ℕ → Due) (f : ℕ) (obj : ObjId) → ((k : ℕ) → IsStart (d k) f obj → ⊥) → IsStart (at_cell r d) f obj → ⊥
no_start_at (Ok k) d f obj h i = h k i
no_start_at (Err e) d f obj h i = cc

quiet_starts_none : (r : Result ℕ Trap) (f : ℕ) (obj : ObjId) → IsStart (quiet_unless r) f obj → ⊥
quiet_starts_none (Ok w) f obj h = cc
quiet_starts_none (Err e) f obj h = cc

load_starts_none : (r : Result ℕ Trap) (f : ℕ) (obj : ObjId) → IsStart (load_due r) f obj → ⊥
load_starts_none (Ok w) f obj h = cc
load_starts_none (Err e) f obj h = cc

store_starts_none : (r : Result ℕ Trap) (w f : ℕ) (obj : ObjId) → IsStart (store_due r w) f obj → ⊥
store_starts_none (Ok c) w f obj h = cc
store_starts_none (Err e) w f obj h = cc

mark_starts_none : (o : Option ℕ) (f : ℕ) (obj : ObjId) → IsStart (mark_if o) f obj → ⊥
mark_starts_none None f obj h = cc
mark_starts_none (Some a) f obj h = cc

module _ (code : Code) (s : SetupView) (t : ℕ) (th : Thread) (f : ℕ) (obj : ObjId) where
  enter_starts_none : (frames g : ℕ) → IsStart (enter_due code s t th frames g) f obj → ⊥
  enter_starts_none frames g h =
      no_start_if (nat_le s.limit th.count) (due.Trap trap.Limit) (if nat_le most_frames frames then due.Trap trap.Depth else mark_if (fitted code.sites (arena_end code s t) (objects_in code g) th.arena)) f obj (λ e. cc)
      (λ e. no_start_if (nat_le most_frames frames) (due.Trap trap.Depth) (mark_if (fitted code.sites (arena_end code s t) (objects_in code g) th.arena)) f obj (λ e2. cc) (mark_starts_none (fitted code.sites (arena_end code s t) (objects_in code g) th.arena) f obj) e) h

  end_starts_none : (main : Bool) (n value : ℕ) → IsStart (end_due main t n value) f obj → ⊥
  end_starts_none true n value h = cc
  end_starts_none false zero value h = cc
  end_starts_none false (suc zero) value h = cc
  end_starts_none false (suc (suc n)) value h = cc

  mutex_starts_none : (w : Caller) (o : Op) (ws : List ℕ) (n : ℕ) (kept : ℤ) → ((g c : ℕ) → due.Operate o (object.Mutex c) ≡ due.Operate (op.Start g) obj → ⊥) → IsStart (mutex_due w o ws n kept) f obj → ⊥
  mutex_starts_none w o ws zero kept ne h = no_start_at (cell_of w ws 0 kind.Mutex) (λ k. due.Operate o (object.Mutex k)) f obj (λ k. ne f k) h
  mutex_starts_none w o ws (suc n) kept ne h = no_start_if (is_misuse kept) (due.Trap trap.MutexMisuse) due.Quiet f obj (λ e. cc) (λ e. cc) h

  rwlock_starts_none : (w : Caller) (o : Op) (ws : List ℕ) (n : ℕ) (kept : ℤ) → ((g c : ℕ) → due.Operate o (object.Rw c) ≡ due.Operate (op.Start g) obj → ⊥) → IsStart (rwlock_due w o ws n kept) f obj → ⊥
  rwlock_starts_none w o ws zero kept ne h = no_start_at (cell_of w ws 0 kind.Rw) (λ k. due.Operate o (object.Rw k)) f obj (λ k. ne f k) h
  rwlock_starts_none w o ws (suc n) kept ne h = no_start_if (is_misuse kept) (due.Trap trap.RwMisuse) due.Quiet f obj (λ e. cc) (λ e. cc) h

  wait_starts_none : (c m n : ℕ) (kept : ℤ) → IsStart (wait_due_at c m n kept) f obj → ⊥
  wait_starts_none c m zero kept h = cc
  wait_starts_none c m (suc zero) kept h = cc
  wait_starts_none c m (suc (suc zero)) kept h = no_start_if (is_misuse kept) (due.Trap trap.MutexMisuse) (due.Operate (op.CondWake (count_in kept)) (object.Cond c)) f obj (λ e. cc) (λ e. cc) h
  wait_starts_none c m (suc (suc (suc n))) kept h = cc

  asks_starts_none : (w : Caller) (ws : List ℕ) (k : CellKind) → IsStart (at_cell (cell_of w ws 0 k) (λ c. due.Quiet)) f obj → ⊥
  asks_starts_none w ws k h = no_start_at (cell_of w ws 0 k) (λ c. due.Quiet) f obj (λ k e. cc) h

  join_thread_starts_none : (w : Caller) (n : ℤ) → IsStart (join_thread_due w n) f obj → ⊥
  join_thread_starts_none w n h = no_start_if (is_joinable w n) (due.Operate op.Join (object.Slot (slot_in n))) (due.Trap trap.BadThread) f obj (λ e. cc) (λ e. cc) h

  join_starts_none : (w : Caller) (ws : List ℕ) (n : ℕ) (kept : ℤ) → IsStart (join_due w ws n kept) f obj → ⊥
  join_starts_none w ws zero kept h =
      no_start_if (argument ws 1 == 0) (join_thread_due w (number (argument ws 0))) (at_cell (cell_of w ws 1 kind.Pointer) (λ c. join_thread_due w (number (argument ws 0)))) f obj
      (join_thread_starts_none w (number (argument ws 0)))
      (λ e. no_start_at (cell_of w ws 1 kind.Pointer) (λ c. join_thread_due w (number (argument ws 0))) f obj (λ k. join_thread_starts_none w (number (argument ws 0))) e) h
  join_starts_none w ws (suc zero) kept h = no_start_if (is_misuse kept) (due.Trap trap.BadThread) (due.Load (result_cell (slot_in (number (argument ws 0))))) f obj (λ e. cc) (λ e. cc) h
  join_starts_none w ws (suc (suc n)) kept h = no_start_at (cell_of w ws 1 kind.Pointer) (λ c. due.Store c (word kept)) f obj (λ k e. cc) h

  exit_starts_none : (w : Caller) (v n : ℕ) → IsStart (exit_due w v n) f obj → ⊥
  exit_starts_none w v zero h = cc
  exit_starts_none w v (suc zero) h = cc
  exit_starts_none w v (suc (suc n)) h = cc

  print_starts_none : (w : Caller) (n : ℕ) → IsStart (print_due w n) f obj → ⊥
  print_starts_none w n h = no_start_if (nat_le (w.printed + n) most_printed) (due.Operate op.Print object.Output) (due.Trap trap.Limit) f obj (λ e. cc) (λ e. cc) h

  -- the one call that starts threads
  abbrev MayStart : LibraryCall → Type 0
  MayStart (call.Create g) = Unit {0}
  MayStart _ = ⊥

  call_starts : (w : Caller) (c : LibraryCall) (ws : List ℕ) (n : ℕ) (kept : ℤ) → IsStart (library_due w c ws n kept) f obj → MayStart c
  call_starts w (call.Create g) ws n kept h = tt
  call_starts w call.Join ws n kept h = join_starts_none w ws n kept h
  call_starts w call.Exit ws n kept h = exit_starts_none w (argument ws 0) n h
  call_starts w call.SelfNumber ws n kept h = cc
  call_starts w call.SameThread ws n kept h = cc
  call_starts w call.MutexInit ws n kept h = mutex_starts_none w op.MutexInit ws n kept (λ g c e. cc) h
  call_starts w call.MutexLock ws n kept h = mutex_starts_none w op.Lock ws n kept (λ g c e. cc) h
  call_starts w call.MutexUnlock ws n kept h = mutex_starts_none w op.Unlock ws n kept (λ g c e. cc) h
  call_starts w call.MutexTryLock ws zero kept h = no_start_at (cell_of w ws 0 kind.Mutex) (λ k. due.Operate op.TryLock (object.Mutex k)) f obj (λ k e. cc) h
  call_starts w call.MutexTryLock ws (suc n) kept h = cc
  call_starts w call.MutexDestroy ws n kept h = asks_starts_none w ws kind.Mutex h
  call_starts w call.CondInit ws n kept h = asks_starts_none w ws kind.Cond h
  call_starts w call.CondWait ws n kept h = no_start_at (cell_of w ws 0 kind.Cond) (λ c. at_cell (cell_of w ws 1 kind.Mutex) (λ m. wait_due_at c m n kept)) f obj (λ c e. no_start_at (cell_of w ws 1 kind.Mutex) (λ m. wait_due_at c m n kept) f obj (λ m e2. wait_starts_none c m n kept e2) e) h
  call_starts w call.CondSignal ws n kept h = no_start_at (cell_of w ws 0 kind.Cond) (λ c. due.Operate op.Signal (object.Cond c)) f obj (λ k e. cc) h
  call_starts w call.CondDestroy ws n kept h = asks_starts_none w ws kind.Cond h
  call_starts w call.BarrierInit ws zero kept h = no_start_at (cell_of w ws 0 kind.Barrier) _ f obj (λ k e. cc) h
  call_starts w call.BarrierInit ws (suc n) kept h = no_start_if (is_misuse kept) (due.Trap trap.BarrierMisuse) due.Quiet f obj (λ e. cc) (λ e. cc) h
  call_starts w call.BarrierWait ws zero kept h = no_start_at (cell_of w ws 0 kind.Barrier) (λ c. due.Operate op.Arrive (object.Barrier c)) f obj (λ k e. cc) h
  call_starts w call.BarrierWait ws (suc n) kept h =
      no_start_if (is_misuse kept) (due.Trap trap.BarrierMisuse) _ f obj (λ e. cc)
      (λ e. no_start_if (is_serial kept) due.Quiet (at_cell (cell_of w ws 0 kind.Barrier) (λ c. due.Operate (op.Pass (count_in kept)) (object.Barrier c))) f obj (λ e2. cc) (λ e2. no_start_at (cell_of w ws 0 kind.Barrier) (λ c. due.Operate (op.Pass (count_in kept)) (object.Barrier c)) f obj (λ j e3. cc) e2) e) h
  call_starts w call.BarrierDestroy ws n kept h = asks_starts_none w ws kind.Barrier h
  call_starts w call.RwInit ws n kept h = rwlock_starts_none w op.RwInit ws n kept (λ g c e. cc) h
  call_starts w call.RwRdLock ws n kept h = rwlock_starts_none w op.RdLock ws n kept (λ g c e. cc) h
  call_starts w call.RwWrLock ws n kept h = rwlock_starts_none w op.WrLock ws n kept (λ g c e. cc) h
  call_starts w call.RwUnlock ws n kept h = rwlock_starts_none w op.RwUnlock ws n kept (λ g c e. cc) h
  call_starts w call.RwDestroy ws n kept h = asks_starts_none w ws kind.Rw h
  call_starts w call.Free ws n kept h = cc
  call_starts w call.GetChar ws n kept h = cc
  call_starts w (call.Print format) ws n kept h = print_starts_none w (length (printed_piece format ws)) h
  call_starts w call.PutChar ws n kept h = print_starts_none w 1 h

  -- the thread has drawn the slot, for this function, and has handed over the argument
  pub record Starts : Type 0 where
    pub slot : ℕ
    pub on : obj ≡ object.Slot slot
    pub created : creation code th ≡ Some (record { slot = slot; function = f; handed = true })

  module _ (runs : th.phase ≡ phase.Running) where
    create_starts : (g : ℕ) (arguments : List ℕ) (into : Option ℕ) (n : ℕ) → act_at code th.top ≡ Some (act.Library (call.Create g) arguments into) → th.top.made ≡ n → IsStart (create_due (caller code s t th) g (words_of th.top.registers arguments) n th.top.kept) f obj → Starts
    create_starts g arguments into zero at m h = absurd (no_start_at (cell_of (caller code s t th) (words_of th.top.registers arguments) 0 kind.Whole) (λ c. due.Operate (op.Draw s.slots) object.Threads) f obj (λ k e. cc) h)
    create_starts g arguments into (suc zero) at m h = cc
    create_starts g arguments into (suc (suc zero)) at m h = absurd (no_start_at (cell_of (caller code s t th) (words_of th.top.registers arguments) 0 kind.Whole) (λ c. due.Store c (word th.top.kept)) f obj (λ k e. cc) h)
    create_starts g arguments into (suc (suc (suc n))) at m h =
        let f_is : g ≡ f = cc in
        let on : object.Slot (slot_in th.top.kept) ≡ obj = cc in
        record { slot = slot_in th.top.kept; on = sym on; created = creating_at code s t th runs g arguments into (suc (suc (suc n))) at m ∙ ap (λ k. Some (record { slot = slot_in th.top.kept; function = k; handed = true })) f_is }

    parting_start : (xs : List Stripe) (d : Due) → IsStart (parting_due xs d) f obj → IsStart d f obj
    parting_start [] d h = h
    parting_start (z ∷ zs) d h = absurd (no_start_if (owes (z ∷ zs)) due.Quiet (due.Operate op.Give (object.Weak z.lock z.stripe)) f obj (λ e. cc) (λ e. cc) h)

    library_starts : (c : LibraryCall) (arguments : List ℕ) (into : Option ℕ) → act_at code th.top ≡ Some (act.Library c arguments into) → MayStart c → IsStart (library_due (caller code s t th) c (words_of th.top.registers arguments) th.top.made th.top.kept) f obj → Starts
    library_starts (call.Create g) arguments into at may h = create_starts g arguments into th.top.made at refl h
    library_starts _ arguments into at may h = absurd may

    act_starts : (o : Option Act) → act_at code th.top ≡ o → IsStart (act_due code s t th o) f obj → Starts
    act_starts None at h = cc
    act_starts (Some (act.Compute into w)) at h = absurd (quiet_starts_none (work_of s.slots code.sites (pointers_of code th.top) th.top.registers w) f obj h)
    act_starts (Some (act.Alloc into site None)) at h = cc
    act_starts (Some (act.Alloc into site (Some size))) at h =
        let n = number (register th.top.registers size) in
        absurd (no_start_if (is_size (size_of code.sites site) n) (if nat_le (th.arena + cells_in n) (arena_end code s t) then due.Quiet else due.Trap trap.ArenaFull) (due.Trap trap.BadSize) f obj
        (λ e. no_start_if (nat_le (th.arena + cells_in n) (arena_end code s t)) due.Quiet (due.Trap trap.ArenaFull) f obj (λ e2. cc) (λ e2. cc) e) (λ e. cc) h)
    act_starts (Some (act.LoadCell into through)) at h = absurd (load_starts_none (resolved code.sites (register th.top.registers through) (access_kind (is_pointer (pointers_of code th.top) into))) f obj h)
    act_starts (Some (act.StoreCell through from)) at h = absurd (store_starts_none (resolved code.sites (register th.top.registers through) (access_kind (is_pointer (pointers_of code th.top) from))) (register th.top.registers from) f obj h)
    act_starts (Some act.Mark) at h = cc
    act_starts (Some (act.Call g arguments into)) at h = absurd (enter_starts_none (length th.below + 1) g h)
    act_starts (Some (act.Library c arguments into)) at h =
        let d = parting_start (parting c th.top.made th.stripes) (library_due (caller code s t th) c (words_of th.top.registers arguments) th.top.made th.top.kept) h in
        library_starts c arguments into at (call_starts (caller code s t th) c (words_of th.top.registers arguments) th.top.made th.top.kept d) d
    act_starts (Some (act.Jump to)) at h = cc
    act_starts (Some (act.Branch on a b)) at h = cc
    act_starts (Some (act.Return value)) at h = absurd (no_start_if (length th.below == 0) (end_due (is_main code th.top.function) t th.top.made (value_of th.top.registers value)) due.Quiet f obj (end_starts_none (is_main code th.top.function) th.top.made (value_of th.top.registers value)) (λ e. cc) h)
    act_starts (Some (act.Take k)) at h = absurd (taking (lacked code th (region_of code th.top k)) h)
      where
        taking : (o : Option ℕ) → IsStart (take_or_quiet o) f obj → ⊥
        taking None h = cc
        taking (Some n) h = cc
    act_starts (Some (act.Give k)) at h = absurd (giving (to_give code th k) h)
      where
        giving : (o : Option (ℕ × ℕ)) → IsStart (give_or_quiet o) f obj → ⊥
        giving None h = cc
        giving (Some n) h = cc

  begun_starts_none : (u g : ℕ) → u ≡ t → IsStart (begun_due code s u th g) f obj → ⊥
  begun_starts_none zero g e h = enter_starts_none 0 g (subst (λ k. IsStart (enter_due code s k th 0 g) f obj) e h)
  begun_starts_none (suc k) g e h = cc

  phase_starts : (p : Phase) → th.phase ≡ p → IsStart (phase_due code s t th p) f obj → Starts
  phase_starts phase.Fresh e h = cc
  phase_starts (phase.Begun g) e h = absurd (begun_starts_none t g refl h)
  phase_starts (phase.Loaded g w) e h = absurd (enter_starts_none 0 g h)
  phase_starts phase.Running e h = act_starts e (act_at code th.top) refl h
  phase_starts phase.Ended e h = cc
  phase_starts phase.Halted e h = cc
  phase_starts (phase.Trapped kind line) e h = cc
  phase_starts phase.Stopped e h = cc
  phase_starts phase.Closed e h = cc

  -- a thread is started only by the one that has created it
  pub due_starts : due_of code s t th ≡ due.Operate (op.Start f) obj → Starts
  due_starts e = ⊎_elim (λ p. phase_starts th.phase refl p.0) (λ r. absurd (other r.1)) (operate_by_code code s t th (op.Start f) obj e)
    where
      other : op.Start f ≡ op.Retake → ⊥
      other e = cc
