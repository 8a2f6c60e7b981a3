-- But for Take, Give and pthread_exit, no instruction makes an operation on a stripe; and a thread begins and ends no slot but its own.
use Rattle.std.proofs.Common.{◌≡◌, ℕ, zero, suc, ◌+◌, ◌==◌, nat_le, Bool, true, false, if◌then◌else◌, List, length, Option, Some, None, Result, Ok, Err, refl, ap, ℤ}
use Rattle.sync_objects.specs.Setup.{SetupView}
use Rattle.sync_objects.specs.declared.object.ObjId.{ObjId}
use Rattle.sync_objects.specs.declared.object.ObjId.TheVariants as object
use Rattle.sync_objects.specs.declared.operation.Op.{Op}
use Rattle.sync_objects.specs.declared.operation.Op.TheVariants as op
use Rattle.rr_base.specs.declared.trap.Trap.{Trap}
use Rattle.rr_base.specs.declared.trap.Trap.TheVariants as trap
use Rattle.rr_base.specs.declared.layout.CellKind.{CellKind}
use Rattle.rr_base.specs.declared.layout.CellKind.TheVariants as kind
use Rattle.word_semantics.specs.declared.library_call.LibraryCall.{LibraryCall}
use Rattle.word_semantics.specs.declared.library_call.LibraryCall.TheVariants as call
use Rattle.word_semantics.specs.declared.event.Due.{Due}
use Rattle.word_semantics.specs.declared.event.Due.TheVariants as due
use Rattle.word_semantics.specs.Values.{number}
use Rattle.word_semantics.specs.Cells.{is_size, cells_in}
use Rattle.word_semantics.specs.Library.{Caller, argument, is_misuse, is_serial, at_cell, cell_of, printed_piece, most_printed, print_due, create_due, is_joinable, join_thread_due, join_due, exit_due, checked_due, mutex_due, rwlock_due, try_due, wait_due_at, barrier_init_due, barrier_wait_due, asks_for, library_due}
use Rattle.flow_code.specs.declared.code.Code.{Code}
use Rattle.flow_code.specs.Threads.{Thread, is_main}
use Rattle.flow_code.specs.Next.{quiet_unless, load_due, store_due, malloc_due, mark_if, enter_due, end_due, return_due, begun_due}
use Rattle.word_semantics.specs.Limits.{most_frames}

-- the object is a stripe
abbrev pub is_stripe : ObjId → Bool
is_stripe (object.Weak lock stripe) = true
is_stripe _ = false

-- the operation begins or ends this slot, or neither begins nor ends one
abbrev pub OfSlot : ℕ → Op → ObjId → Type 0
OfSlot t op.Begin obj = obj ≡ object.Slot t
OfSlot t op.End obj = obj ≡ object.Slot t
OfSlot t _ obj = Unit {0}

module _ (t : ℕ) where
  -- what is due is no operation on a stripe, and begins and ends at most the slot of thread t
  abbrev pub IsPlain : Due → Type 0
  IsPlain (due.Operate o obj) = (is_stripe obj ≡ false) × OfSlot t o obj
  IsPlain _ = Unit {0}

  pub if_plain : (b : Bool) (x y : Due) → IsPlain x → IsPlain y → IsPlain (if b then x else y)
  if_plain true x y h k = h
  if_plain false x y h k = k

  at_plain : (r : Result ℕ Trap) (comes : ℕ → Due) → ((c : ℕ) → IsPlain (comes c)) → IsPlain (at_cell r comes)
  at_plain (Ok c) comes h = h c
  at_plain (Err why) comes h = tt

  -- ---- calls of the library

  create_plain : (w : Caller) (function : ℕ) (words : List ℕ) (made : ℕ) (kept : ℤ) → IsPlain (create_due w function words made kept)
  create_plain w function words zero kept = at_plain (cell_of w words 0 kind.Whole) _ (λ c. (refl, tt))
  create_plain w function words (suc zero) kept = tt
  create_plain w function words (suc (suc zero)) kept = at_plain (cell_of w words 0 kind.Whole) _ (λ c. tt)
  create_plain w function words (suc (suc (suc n))) kept = (refl, tt)

  join_thread_plain : (w : Caller) (n : ℤ) → IsPlain (join_thread_due w n)
  join_thread_plain w n = if_plain (is_joinable w n) _ _ (refl, tt) tt

  join_plain : (w : Caller) (words : List ℕ) (made : ℕ) (kept : ℤ) → IsPlain (join_due w words made kept)
  join_plain w words zero kept = if_plain (argument words 1 == 0) _ _ (join_thread_plain w (number (argument words 0))) (at_plain (cell_of w words 1 kind.Pointer) _ (λ c. join_thread_plain w (number (argument words 0))))
  join_plain w words (suc zero) kept = if_plain (is_misuse kept) _ _ tt tt
  join_plain w words (suc (suc n)) kept = at_plain (cell_of w words 1 kind.Pointer) _ (λ c. tt)

  exit_plain : (w : Caller) (value made : ℕ) → w.thread ≡ t → IsPlain (exit_due w value made)
  exit_plain w value zero e = tt
  exit_plain w value (suc zero) e = (refl, ap object.Slot e)
  exit_plain w value (suc (suc n)) e = (refl, tt)

  checked_plain : (why : Trap) (kept : ℤ) → IsPlain (checked_due why kept)
  checked_plain why kept = if_plain (is_misuse kept) _ _ tt tt

  mutex_plain : (w : Caller) (o : Op) → ((c : ℕ) → OfSlot t o (object.Mutex c)) → (words : List ℕ) (made : ℕ) (kept : ℤ) → IsPlain (mutex_due w o words made kept)
  mutex_plain w o h words zero kept = at_plain (cell_of w words 0 kind.Mutex) _ (λ c. (refl, h c))
  mutex_plain w o h words (suc n) kept = checked_plain trap.MutexMisuse kept

  rwlock_plain : (w : Caller) (o : Op) → ((c : ℕ) → OfSlot t o (object.Rw c)) → (words : List ℕ) (made : ℕ) (kept : ℤ) → IsPlain (rwlock_due w o words made kept)
  rwlock_plain w o h words zero kept = at_plain (cell_of w words 0 kind.Rw) _ (λ c. (refl, h c))
  rwlock_plain w o h words (suc n) kept = checked_plain trap.RwMisuse kept

  try_plain : (w : Caller) (words : List ℕ) (made : ℕ) → IsPlain (try_due w words made)
  try_plain w words zero = at_plain (cell_of w words 0 kind.Mutex) _ (λ c. (refl, tt))
  try_plain w words (suc n) = tt

  wait_at_plain : (c m made : ℕ) (kept : ℤ) → IsPlain (wait_due_at c m made kept)
  wait_at_plain c m zero kept = (refl, tt)
  wait_at_plain c m (suc zero) kept = (refl, tt)
  wait_at_plain c m (suc (suc zero)) kept = if_plain (is_misuse kept) _ _ tt (refl, tt)
  wait_at_plain c m (suc (suc (suc n))) kept = (refl, tt)

  barrier_init_plain : (w : Caller) (words : List ℕ) (made : ℕ) (kept : ℤ) → IsPlain (barrier_init_due w words made kept)
  barrier_init_plain w words zero kept = at_plain (cell_of w words 0 kind.Barrier) _ (λ c. (refl, tt))
  barrier_init_plain w words (suc n) kept = checked_plain trap.BarrierMisuse kept

  barrier_wait_plain : (w : Caller) (words : List ℕ) (made : ℕ) (kept : ℤ) → IsPlain (barrier_wait_due w words made kept)
  barrier_wait_plain w words zero kept = at_plain (cell_of w words 0 kind.Barrier) _ (λ c. (refl, tt))
  barrier_wait_plain w words (suc n) kept = if_plain (is_misuse kept) _ _ tt (if_plain (is_serial kept) _ _ tt (at_plain (cell_of w words 0 kind.Barrier) _ (λ c. (refl, tt))))

  asks_plain : (w : Caller) (words : List ℕ) (k : CellKind) → IsPlain (asks_for w words k)
  asks_plain w words k = at_plain (cell_of w words 0 k) _ (λ c. tt)

  print_plain : (w : Caller) (bytes : ℕ) → IsPlain (print_due w bytes)
  print_plain w bytes = if_plain (nat_le (w.printed + bytes) most_printed) _ _ (refl, tt) tt

  pub library_plain : (w : Caller) (c : LibraryCall) (words : List ℕ) (made : ℕ) (kept : ℤ) → w.thread ≡ t → IsPlain (library_due w c words made kept)
  library_plain w (call.Create function) words made kept e = create_plain w function words made kept
  library_plain w call.Join words made kept e = join_plain w words made kept
  library_plain w call.Exit words made kept e = exit_plain w (argument words 0) made e
  library_plain w call.SelfNumber words made kept e = tt
  library_plain w call.SameThread words made kept e = tt
  library_plain w call.MutexInit words made kept e = mutex_plain w op.MutexInit (λ c. tt) words made kept
  library_plain w call.MutexLock words made kept e = mutex_plain w op.Lock (λ c. tt) words made kept
  library_plain w call.MutexUnlock words made kept e = mutex_plain w op.Unlock (λ c. tt) words made kept
  library_plain w call.MutexTryLock words made kept e = try_plain w words made
  library_plain w call.MutexDestroy words made kept e = asks_plain w words kind.Mutex
  library_plain w call.CondInit words made kept e = asks_plain w words kind.Cond
  library_plain w call.CondWait words made kept e = at_plain (cell_of w words 0 kind.Cond) _ (λ c. at_plain (cell_of w words 1 kind.Mutex) _ (λ m. wait_at_plain c m made kept))
  library_plain w call.CondSignal words made kept e = at_plain (cell_of w words 0 kind.Cond) _ (λ c. (refl, tt))
  library_plain w call.CondDestroy words made kept e = asks_plain w words kind.Cond
  library_plain w call.BarrierInit words made kept e = barrier_init_plain w words made kept
  library_plain w call.BarrierWait words made kept e = barrier_wait_plain w words made kept
  library_plain w call.BarrierDestroy words made kept e = asks_plain w words kind.Barrier
  library_plain w call.RwInit words made kept e = rwlock_plain w op.RwInit (λ c. tt) words made kept
  library_plain w call.RwRdLock words made kept e = rwlock_plain w op.RdLock (λ c. tt) words made kept
  library_plain w call.RwWrLock words made kept e = rwlock_plain w op.WrLock (λ c. tt) words made kept
  library_plain w call.RwUnlock words made kept e = rwlock_plain w op.RwUnlock (λ c. tt) words made kept
  library_plain w call.RwDestroy words made kept e = asks_plain w words kind.Rw
  library_plain w call.Free words made kept e = tt
  library_plain w call.GetChar words made kept e = (refl, tt)
  library_plain w (call.Print format) words made kept e = print_plain w (length (printed_piece format words))
  library_plain w call.PutChar words made kept e = print_plain w 1

  -- ---- other instructions

  pub quiet_plain : (r : Result ℕ Trap) → IsPlain (quiet_unless r)
  quiet_plain (Ok w) = tt
  quiet_plain (Err why) = tt

  pub load_plain : (r : Result ℕ Trap) → IsPlain (load_due r)
  load_plain (Ok c) = tt
  load_plain (Err why) = tt

  pub store_plain : (r : Result ℕ Trap) (w : ℕ) → IsPlain (store_due r w)
  store_plain (Ok c) w = tt
  store_plain (Err why) w = tt

  pub malloc_plain : (unit arena end : ℕ) (n : ℤ) → IsPlain (malloc_due unit arena end n)
  malloc_plain unit arena end n = if_plain (is_size unit n) _ _ (if_plain (nat_le (arena + cells_in n) end) _ _ tt tt) tt

  mark_plain : (o : Option ℕ) → IsPlain (mark_if o)
  mark_plain None = tt
  mark_plain (Some arena) = tt

  pub enter_plain : (code : Code) (s : SetupView) (th : Thread) (frames f : ℕ) → IsPlain (enter_due code s t th frames f)
  enter_plain code s th frames f = if_plain (nat_le s.limit th.count) _ _ tt (if_plain (nat_le most_frames frames) _ _ tt (mark_plain _))

  end_plain : (m : Bool) (made value : ℕ) → IsPlain (end_due m t made value)
  end_plain true made value = (refl, tt)
  end_plain false zero value = tt
  end_plain false (suc zero) value = (refl, refl)
  end_plain false (suc (suc n)) value = (refl, tt)

  pub return_plain : (code : Code) (th : Thread) (value : ℕ) → IsPlain (return_due code t th value)
  return_plain code th value = if_plain (length th.below == 0) _ _ (end_plain (is_main code th.top.function) th.top.made value) tt

pub begun_plain : (code : Code) (s : SetupView) (t : ℕ) (th : Thread) (f : ℕ) → IsPlain t (begun_due code s t th f)
begun_plain code s zero th f = enter_plain zero code s th 0 f
begun_plain code s (suc k) th f = tt
