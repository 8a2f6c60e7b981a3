-- Threads are drawn among the setup's slots.
use Rattle.std.proofs.Common.{◌≡◌, ℕ, zero, suc, ◌+◌, ◌==◌, Bool, true, false, if◌then◌else◌, ℤ, List, [], ◌∷◌, length, Option, Some, None, Ok, Err, refl, sym, ap, ◌∙◌, subst, ⊎_elim}
use Rattle.std.specs.Prelude.{nat_le, Result}
use Rattle.rr_base.specs.declared.trap.Trap.{Trap}
use Rattle.rr_base.specs.declared.trap.Trap.TheVariants as trap
use Rattle.rr_base.specs.declared.layout.CellKind.{CellKind}
use Rattle.rr_base.specs.declared.layout.CellKind.TheVariants as kind
use Rattle.sync_objects.specs.Setup.{SetupView}
use Rattle.sync_objects.specs.declared.object.ObjId.{ObjId}
use Rattle.sync_objects.specs.declared.object.ObjId.TheVariants as object
use Rattle.sync_objects.specs.declared.operation.Op.{Op}
use Rattle.sync_objects.specs.declared.operation.Op.TheVariants as op
use Rattle.word_semantics.specs.Library.{Caller, at_cell, is_misuse, is_serial, is_joinable, library_due, mutex_due, rwlock_due, checked_due, asks_for, print_due, join_thread_due, wait_due_at, cell_of, argument, slot_in, count_in, barrier_count, printed_piece, most_printed}
use Rattle.word_semantics.specs.Cells.{result_cell, size_of, access_kind, cells_in, is_size}
use Rattle.word_semantics.specs.Limits.{most_frames}
use Rattle.word_semantics.specs.Pointers.{resolved}
use Rattle.word_semantics.specs.Values.{number, word}
use Rattle.word_semantics.specs.declared.event.Due.{Due}
use Rattle.word_semantics.specs.declared.event.Due.TheVariants as due
use Rattle.word_semantics.specs.declared.event.Action.TheVariants as action
use Rattle.word_semantics.specs.declared.library_call.LibraryCall.{LibraryCall}
use Rattle.word_semantics.specs.declared.library_call.LibraryCall.TheVariants as call
use Rattle.word_semantics.specs.Registers.{register, words_of}
use Rattle.flow_code.specs.declared.act.Act.{Act}
use Rattle.flow_code.specs.declared.act.Act.TheVariants as act
use Rattle.flow_code.specs.declared.code.Code.{Code}
use Rattle.flow_code.specs.declared.thread.Phase.{Phase}
use Rattle.flow_code.specs.declared.thread.Phase.TheVariants as phase
use Rattle.flow_code.specs.declared.thread.Stripe.{Stripe}
use Rattle.flow_code.specs.Holding.{parting, parting_due, owes, take_or_quiet, give_or_quiet, lacked, region_of, to_give}
use Rattle.flow_code.specs.Next.{act_at, act_due, begun_due, end_due, enter_due, mark_if, phase_due, due_of, action_of, action_at, caller, quiet_unless, load_due, store_due, malloc_due, pointers_of, value_of}
use Rattle.flow_code.specs.Works.{is_pointer, work_of}
use Rattle.flow_code.specs.Threads.{Thread, is_main, fitted, arena_end, objects_in}
use Rattle.flow_code.proofs.Dues.{operate_by_code}
use Rattle.flow_code.proofs.Settle.{action_is}
use Rattle.log_walks.proofs.Like.{Draws}

module _ (code : Code) (s : SetupView) where
  abbrev DueDraws : Due → Type 0
  DueDraws (due.Operate o obj) = Draws s.slots o
  DueDraws _ = Unit {0}

  at_each : (r : Result ℕ Trap) (comes : ℕ → Due) → ((c : ℕ) → DueDraws (comes c)) → DueDraws (at_cell r comes)
  at_each (Ok c) comes h = h c
  at_each (Err t) comes h = tt

  either : (b : Bool) (x y : Due) → DueDraws x → DueDraws y → DueDraws (if b then x else y)
  either true x y h k = h
  either false x y h k = k

  -- ---- calls of the library

  checked : (t : Trap) (kept : ℤ) → DueDraws (checked_due t kept)
  checked t kept = either (is_misuse kept) (due.Trap t) due.Quiet tt tt

  module _ (w : Caller) (same : w.setup ≡ s) where
    mutex : (o : Op) (words : List ℕ) (made : ℕ) (kept : ℤ) → Draws s.slots o → DueDraws (mutex_due w o words made kept)
    mutex o words zero kept h = at_each (cell_of w words 0 kind.Mutex) (λ c. due.Operate o (object.Mutex c)) (λ c. h)
    mutex o words (suc n) kept h = checked trap.MutexMisuse kept

    rwlock : (o : Op) (words : List ℕ) (made : ℕ) (kept : ℤ) → Draws s.slots o → DueDraws (rwlock_due w o words made kept)
    rwlock o words zero kept h = at_each (cell_of w words 0 kind.Rw) (λ c. due.Operate o (object.Rw c)) (λ c. h)
    rwlock o words (suc n) kept h = checked trap.RwMisuse kept

    joins : (n : ℤ) → DueDraws (join_thread_due w n)
    joins n = either (is_joinable w n) (due.Operate op.Join (object.Slot (slot_in n))) (due.Trap trap.BadThread) tt tt

    waits : (c m made : ℕ) (kept : ℤ) → DueDraws (wait_due_at c m made kept)
    waits c m zero kept = tt
    waits c m (suc zero) kept = tt
    waits c m (suc (suc zero)) kept = either (is_misuse kept) (due.Trap trap.MutexMisuse) (due.Operate (op.CondWake (count_in kept)) (object.Cond c)) tt tt
    waits c m (suc (suc (suc n))) kept = tt

    asks : (words : List ℕ) (k : CellKind) → DueDraws (asks_for w words k)
    asks words k = at_each (cell_of w words 0 k) (λ c. due.Quiet) (λ c. tt)

    prints : (bytes : ℕ) → DueDraws (print_due w bytes)
    prints bytes = either (nat_le (w.printed + bytes) most_printed) (due.Operate op.Print object.Output) (due.Trap trap.Limit) tt tt

    passes : (words : List ℕ) (kept : ℤ) → DueDraws (at_cell (cell_of w words 0 kind.Barrier) (λ c. due.Operate (op.Pass (count_in kept)) (object.Barrier c)))
    passes words kept = at_each (cell_of w words 0 kind.Barrier) (λ c. due.Operate (op.Pass (count_in kept)) (object.Barrier c)) (λ c. tt)

    library : (c : LibraryCall) (words : List ℕ) (made : ℕ) (kept : ℤ) → DueDraws (library_due w c words made kept)
    library (call.Create f) words zero kept = at_each (cell_of w words 0 kind.Whole) (λ c. due.Operate (op.Draw w.setup.slots) object.Threads) (λ c. ap (λ (z : SetupView). z.slots) same)
    library (call.Create f) words (suc zero) kept = tt
    library (call.Create f) words (suc (suc zero)) kept = at_each (cell_of w words 0 kind.Whole) (λ c. due.Store c (word kept)) (λ c. tt)
    library (call.Create f) words (suc (suc (suc n))) kept = tt
    library call.Join words zero kept =
        either (argument words 1 == 0) (join_thread_due w (number (argument words 0))) (at_cell (cell_of w words 1 kind.Pointer) (λ c. join_thread_due w (number (argument words 0))))
        (joins (number (argument words 0)))
        (at_each (cell_of w words 1 kind.Pointer) (λ c. join_thread_due w (number (argument words 0))) (λ c. joins (number (argument words 0))))
    library call.Join words (suc zero) kept = either (is_misuse kept) (due.Trap trap.BadThread) (due.Load (result_cell (slot_in (number (argument words 0))))) tt tt
    library call.Join words (suc (suc n)) kept = at_each (cell_of w words 1 kind.Pointer) (λ c. due.Store c (word kept)) (λ c. tt)
    library call.Exit words zero kept = tt
    library call.Exit words (suc zero) kept = tt
    library call.Exit words (suc (suc n)) kept = tt
    library call.SelfNumber words made kept = tt
    library call.SameThread words made kept = tt
    library call.MutexInit words made kept = mutex op.MutexInit words made kept tt
    library call.MutexLock words made kept = mutex op.Lock words made kept tt
    library call.MutexUnlock words made kept = mutex op.Unlock words made kept tt
    library call.MutexTryLock words zero kept = at_each (cell_of w words 0 kind.Mutex) (λ c. due.Operate op.TryLock (object.Mutex c)) (λ c. tt)
    library call.MutexTryLock words (suc n) kept = tt
    library call.MutexDestroy words made kept = asks words kind.Mutex
    library call.CondInit words made kept = asks words kind.Cond
    library call.CondWait words made kept =
        at_each (cell_of w words 0 kind.Cond) (λ c. at_cell (cell_of w words 1 kind.Mutex) (λ m. wait_due_at c m made kept))
        (λ c. at_each (cell_of w words 1 kind.Mutex) (λ m. wait_due_at c m made kept) (λ m. waits c m made kept))
    library call.CondSignal words made kept = at_each (cell_of w words 0 kind.Cond) (λ c. due.Operate op.Signal (object.Cond c)) (λ c. tt)
    library call.CondDestroy words made kept = asks words kind.Cond
    library call.BarrierInit words zero kept = at_each (cell_of w words 0 kind.Barrier) (λ c. due.Operate (op.BarrierInit (barrier_count (number (argument words 1)))) (object.Barrier c)) (λ c. tt)
    library call.BarrierInit words (suc n) kept = checked trap.BarrierMisuse kept
    library call.BarrierWait words zero kept = at_each (cell_of w words 0 kind.Barrier) (λ c. due.Operate op.Arrive (object.Barrier c)) (λ c. tt)
    library call.BarrierWait words (suc n) kept =
        either (is_misuse kept) (due.Trap trap.BarrierMisuse) (if is_serial kept then due.Quiet else at_cell (cell_of w words 0 kind.Barrier) (λ c. due.Operate (op.Pass (count_in kept)) (object.Barrier c)))
        tt
        (either (is_serial kept) due.Quiet (at_cell (cell_of w words 0 kind.Barrier) (λ c. due.Operate (op.Pass (count_in kept)) (object.Barrier c))) tt (passes words kept))
    library call.BarrierDestroy words made kept = asks words kind.Barrier
    library call.RwInit words made kept = rwlock op.RwInit words made kept tt
    library call.RwRdLock words made kept = rwlock op.RdLock words made kept tt
    library call.RwWrLock words made kept = rwlock op.WrLock words made kept tt
    library call.RwUnlock words made kept = rwlock op.RwUnlock words made kept tt
    library call.RwDestroy words made kept = asks words kind.Rw
    library call.Free words made kept = tt
    library call.GetChar words made kept = tt
    library (call.Print format) words made kept = prints (length (printed_piece format words))
    library call.PutChar words made kept = prints 1

  parts : (xs : List Stripe) (d : Due) → DueDraws d → DueDraws (parting_due xs d)
  parts [] d h = h
  parts (x ∷ xs) d h = either (owes (x ∷ xs)) due.Quiet (due.Operate op.Give (object.Weak x.lock x.stripe)) tt tt

  -- ---- instructions

  quiet : (r : Result ℕ Trap) → DueDraws (quiet_unless r)
  quiet (Ok c) = tt
  quiet (Err t) = tt

  loads : (r : Result ℕ Trap) → DueDraws (load_due r)
  loads (Ok c) = tt
  loads (Err t) = tt

  stores : (r : Result ℕ Trap) (w : ℕ) → DueDraws (store_due r w)
  stores (Ok c) w = tt
  stores (Err t) w = tt

  marks : (o : Option ℕ) → DueDraws (mark_if o)
  marks None = tt
  marks (Some a) = tt

  enters : (t : ℕ) (th : Thread) (frames f : ℕ) → DueDraws (enter_due code s t th frames f)
  enters t th frames f =
      let o = fitted code.sites (arena_end code s t) (objects_in code f) th.arena in
      either (nat_le s.limit th.count) (due.Trap trap.Limit) (if nat_le most_frames frames then due.Trap trap.Depth else mark_if o) tt
      (either (nat_le most_frames frames) (due.Trap trap.Depth) (mark_if o) tt (marks o))

  mallocs : (unit arena end : ℕ) (n : ℤ) → DueDraws (malloc_due unit arena end n)
  mallocs unit arena end n =
      either (is_size unit n) (if nat_le (arena + cells_in n) end then due.Quiet else due.Trap trap.ArenaFull) (due.Trap trap.BadSize)
      (either (nat_le (arena + cells_in n) end) due.Quiet (due.Trap trap.ArenaFull) tt tt) tt

  ends : (b : Bool) (t made value : ℕ) → DueDraws (end_due b t made value)
  ends true t made value = tt
  ends false t zero value = tt
  ends false t (suc zero) value = tt
  ends false t (suc (suc n)) value = tt

  takes : (o : Option ℕ) → DueDraws (take_or_quiet o)
  takes None = tt
  takes (Some n) = tt

  gives : (o : Option (ℕ × ℕ)) → DueDraws (give_or_quiet o)
  gives None = tt
  gives (Some x) = tt

  acts : (t : ℕ) (th : Thread) (o : Option Act) → DueDraws (act_due code s t th o)
  acts t th None = tt
  acts t th (Some (act.Compute into work)) = quiet (work_of s.slots code.sites (pointers_of code th.top) th.top.registers work)
  acts t th (Some (act.Alloc into site None)) = tt
  acts t th (Some (act.Alloc into site (Some size))) = mallocs (size_of code.sites site) th.arena (arena_end code s t) (number (register th.top.registers size))
  acts t th (Some (act.LoadCell into through)) = loads (resolved code.sites (register th.top.registers through) (access_kind (is_pointer (pointers_of code th.top) into)))
  acts t th (Some (act.StoreCell through from)) = stores (resolved code.sites (register th.top.registers through) (access_kind (is_pointer (pointers_of code th.top) from))) (register th.top.registers from)
  acts t th (Some act.Mark) = tt
  acts t th (Some (act.Call function arguments into)) = enters t th (length th.below + 1) function
  acts t th (Some (act.Library c arguments into)) = parts (parting c th.top.made th.stripes) (library_due (caller code s t th) c (words_of th.top.registers arguments) th.top.made th.top.kept) (library (caller code s t th) refl c (words_of th.top.registers arguments) th.top.made th.top.kept)
  acts t th (Some (act.Jump to)) = tt
  acts t th (Some (act.Branch on then_at else_at)) = tt
  acts t th (Some (act.Return value)) = either (length th.below == 0) (end_due (is_main code th.top.function) t th.top.made (value_of th.top.registers value)) due.Quiet (ends (is_main code th.top.function) t th.top.made (value_of th.top.registers value)) tt
  acts t th (Some (act.Take region)) = takes (lacked code th (region_of code th.top region))
  acts t th (Some (act.Give region)) = gives (to_give code th region)

  begins : (t : ℕ) (th : Thread) (f : ℕ) → DueDraws (begun_due code s t th f)
  begins zero th f = enters zero th 0 f
  begins (suc k) th f = tt

  by_phase : (t : ℕ) (th : Thread) (p : Phase) → DueDraws (phase_due code s t th p)
  by_phase t th phase.Fresh = tt
  by_phase t th (phase.Begun f) = begins t th f
  by_phase t th (phase.Loaded f w) = enters t th 0 f
  by_phase t th phase.Running = acts t th (act_at code th.top)
  by_phase t th phase.Ended = tt
  by_phase t th phase.Halted = tt
  by_phase t th (phase.Trapped k l) = tt
  by_phase t th phase.Stopped = tt
  by_phase t th phase.Closed = tt

  by_due : (t : ℕ) (th : Thread) (o : Op) (obj : ObjId) → due_of code s t th ≡ due.Operate o obj → Draws s.slots o
  by_due t th o obj e = ⊎_elim
      (λ h. subst DueDraws h.0 (by_phase t th th.phase))
      (λ h. subst (Draws s.slots) (sym h.1) tt)
      (operate_by_code code s t th o obj e)

  by_action : (t : ℕ) (th : Thread) (o : Op) (obj : ObjId) (d : Due) → due_of code s t th ≡ d → action_of d ≡ action.Operate o obj → Draws s.slots o
  by_action t th o obj due.Nothing e h = cc
  by_action t th o obj due.Quiet e h = cc
  by_action t th o obj (due.Load c) e h = cc
  by_action t th o obj (due.Store c w) e h = cc
  by_action t th o obj due.Mark e h = cc
  by_action t th o obj (due.Operate p q) e h = by_due t th o obj (e ∙ cc)
  by_action t th o obj (due.Trap kind) e h =
      let same : op.TrapHere ≡ o = cc in
      subst (Draws s.slots) same tt

  pub draws_setup : (t : ℕ) (th : Thread) (o : Op) (obj : ObjId) → action_at code s t th ≡ action.Operate o obj → Draws s.slots o
  draws_setup t th o obj e = by_action t th o obj (due_of code s t th) refl (sym (action_is code s t th) ∙ e)
