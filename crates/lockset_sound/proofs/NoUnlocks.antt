-- But for pthread_mutex_unlock, pthread_rwlock_unlock and pthread_cond_wait, no instruction unlocks a lock.
use Rattle.std.proofs.Common.{◌≡◌, ℕ, zero, suc, ◌+◌, ◌==◌, nat_le, Bool, true, false, if◌then◌else◌, List, length, Option, Some, None, Result, Ok, Err, refl, ℤ}
use Rattle.sync_objects.specs.Setup.{SetupView}
use Rattle.sync_objects.specs.declared.operation.Op.{Op}
use Rattle.sync_objects.specs.declared.operation.Op.TheVariants as op
use Rattle.rr_base.specs.declared.trap.Trap.{Trap}
use Rattle.rr_base.specs.declared.trap.Trap.TheVariants as trap
use Rattle.rr_base.specs.declared.layout.CellKind.{CellKind}
use Rattle.rr_base.specs.declared.layout.CellKind.TheVariants as kind
use Rattle.word_semantics.specs.declared.library_call.LibraryCall.{LibraryCall}
use Rattle.word_semantics.specs.declared.library_call.LibraryCall.TheVariants as call
use Rattle.word_semantics.specs.declared.event.Due.{Due}
use Rattle.word_semantics.specs.declared.event.Due.TheVariants as due
use Rattle.word_semantics.specs.Values.{number}
use Rattle.word_semantics.specs.Cells.{is_size, cells_in}
use Rattle.word_semantics.specs.Library.{Caller, argument, is_misuse, is_serial, at_cell, cell_of, printed_piece, most_printed, print_due, create_due, is_joinable, join_thread_due, join_due, exit_due, checked_due, mutex_due, rwlock_due, try_due, barrier_init_due, barrier_wait_due, asks_for, library_due}
use Rattle.flow_code.specs.declared.code.Code.{Code}
use Rattle.flow_code.specs.Threads.{Thread, is_main}
use Rattle.flow_code.specs.Next.{quiet_unless, load_due, store_due, malloc_due, mark_if, enter_due, end_due, return_due, begun_due}
use Rattle.word_semantics.specs.Limits.{most_frames}

abbrev pub is_unlock : Op → Bool
is_unlock op.Unlock = true
is_unlock op.RwUnlock = true
is_unlock _ = false

-- what is due is no unlock
abbrev pub HasNoUnlock : Due → Type 0
HasNoUnlock (due.Operate o obj) = is_unlock o ≡ false
HasNoUnlock _ = Unit {0}

pub if_none : (b : Bool) (x y : Due) → HasNoUnlock x → HasNoUnlock y → HasNoUnlock (if b then x else y)
if_none true x y h k = h
if_none false x y h k = k

at_none : (r : Result ℕ Trap) (comes : ℕ → Due) → ((c : ℕ) → HasNoUnlock (comes c)) → HasNoUnlock (at_cell r comes)
at_none (Ok c) comes h = h c
at_none (Err t) comes h = tt

-- ---- calls of the library

create_none : (w : Caller) (function : ℕ) (words : List ℕ) (made : ℕ) (kept : ℤ) → HasNoUnlock (create_due w function words made kept)
create_none w function words zero kept = at_none (cell_of w words 0 kind.Whole) _ (λ c. refl)
create_none w function words (suc zero) kept = tt
create_none w function words (suc (suc zero)) kept = at_none (cell_of w words 0 kind.Whole) _ (λ c. tt)
create_none w function words (suc (suc (suc n))) kept = refl

join_thread_none : (w : Caller) (n : ℤ) → HasNoUnlock (join_thread_due w n)
join_thread_none w n = if_none (is_joinable w n) _ _ refl tt

join_none : (w : Caller) (words : List ℕ) (made : ℕ) (kept : ℤ) → HasNoUnlock (join_due w words made kept)
join_none w words zero kept = if_none (argument words 1 == 0) _ _ (join_thread_none w (number (argument words 0))) (at_none (cell_of w words 1 kind.Pointer) _ (λ c. join_thread_none w (number (argument words 0))))
join_none w words (suc zero) kept = if_none (is_misuse kept) _ _ tt tt
join_none w words (suc (suc n)) kept = at_none (cell_of w words 1 kind.Pointer) _ (λ c. tt)

exit_none : (w : Caller) (value made : ℕ) → HasNoUnlock (exit_due w value made)
exit_none w value zero = tt
exit_none w value (suc zero) = refl
exit_none w value (suc (suc n)) = refl

checked_none : (why : Trap) (kept : ℤ) → HasNoUnlock (checked_due why kept)
checked_none why kept = if_none (is_misuse kept) _ _ tt tt

mutex_none : (w : Caller) (o : Op) (words : List ℕ) (made : ℕ) (kept : ℤ) → is_unlock o ≡ false → HasNoUnlock (mutex_due w o words made kept)
mutex_none w o words zero kept e = at_none (cell_of w words 0 kind.Mutex) _ (λ c. e)
mutex_none w o words (suc n) kept e = checked_none trap.MutexMisuse kept

rwlock_none : (w : Caller) (o : Op) (words : List ℕ) (made : ℕ) (kept : ℤ) → is_unlock o ≡ false → HasNoUnlock (rwlock_due w o words made kept)
rwlock_none w o words zero kept e = at_none (cell_of w words 0 kind.Rw) _ (λ c. e)
rwlock_none w o words (suc n) kept e = checked_none trap.RwMisuse kept

try_none : (w : Caller) (words : List ℕ) (made : ℕ) → HasNoUnlock (try_due w words made)
try_none w words zero = at_none (cell_of w words 0 kind.Mutex) _ (λ c. refl)
try_none w words (suc n) = tt

barrier_init_none : (w : Caller) (words : List ℕ) (made : ℕ) (kept : ℤ) → HasNoUnlock (barrier_init_due w words made kept)
barrier_init_none w words zero kept = at_none (cell_of w words 0 kind.Barrier) _ (λ c. refl)
barrier_init_none w words (suc n) kept = checked_none trap.BarrierMisuse kept

barrier_wait_none : (w : Caller) (words : List ℕ) (made : ℕ) (kept : ℤ) → HasNoUnlock (barrier_wait_due w words made kept)
barrier_wait_none w words zero kept = at_none (cell_of w words 0 kind.Barrier) _ (λ c. refl)
barrier_wait_none w words (suc n) kept = if_none (is_misuse kept) _ _ tt (if_none (is_serial kept) _ _ tt (at_none (cell_of w words 0 kind.Barrier) _ (λ c. refl)))

asks_none : (w : Caller) (words : List ℕ) (k : CellKind) → HasNoUnlock (asks_for w words k)
asks_none w words k = at_none (cell_of w words 0 k) _ (λ c. tt)

print_none : (w : Caller) (bytes : ℕ) → HasNoUnlock (print_due w bytes)
print_none w bytes = if_none (nat_le (w.printed + bytes) most_printed) _ _ refl tt

-- the call neither locks a lock for certain nor unlocks one
abbrev pub is_plain : LibraryCall → Bool
is_plain call.MutexLock = false
is_plain call.MutexUnlock = false
is_plain call.CondWait = false
is_plain call.RwRdLock = false
is_plain call.RwWrLock = false
is_plain call.RwUnlock = false
is_plain _ = true

pub library_none : (w : Caller) (c : LibraryCall) (words : List ℕ) (made : ℕ) (kept : ℤ) → is_plain c ≡ true → HasNoUnlock (library_due w c words made kept)
library_none w (call.Create function) words made kept p = create_none w function words made kept
library_none w call.Join words made kept p = join_none w words made kept
library_none w call.Exit words made kept p = exit_none w (argument words 0) made
library_none w call.SelfNumber words made kept p = tt
library_none w call.SameThread words made kept p = tt
library_none w call.MutexInit words made kept p = mutex_none w op.MutexInit words made kept refl
library_none w call.MutexLock words made kept p = cc
library_none w call.MutexUnlock words made kept p = cc
library_none w call.MutexTryLock words made kept p = try_none w words made
library_none w call.MutexDestroy words made kept p = asks_none w words kind.Mutex
library_none w call.CondInit words made kept p = asks_none w words kind.Cond
library_none w call.CondWait words made kept p = cc
library_none w call.CondSignal words made kept p = at_none (cell_of w words 0 kind.Cond) _ (λ c. refl)
library_none w call.CondDestroy words made kept p = asks_none w words kind.Cond
library_none w call.BarrierInit words made kept p = barrier_init_none w words made kept
library_none w call.BarrierWait words made kept p = barrier_wait_none w words made kept
library_none w call.BarrierDestroy words made kept p = asks_none w words kind.Barrier
library_none w call.RwInit words made kept p = rwlock_none w op.RwInit words made kept refl
library_none w call.RwRdLock words made kept p = cc
library_none w call.RwWrLock words made kept p = cc
library_none w call.RwUnlock words made kept p = cc
library_none w call.RwDestroy words made kept p = asks_none w words kind.Rw
library_none w call.Free words made kept p = tt
library_none w call.GetChar words made kept p = refl
library_none w (call.Print format) words made kept p = print_none w (length (printed_piece format words))
library_none w call.PutChar words made kept p = print_none w 1

-- ---- other instructions

pub quiet_none : (r : Result ℕ Trap) → HasNoUnlock (quiet_unless r)
quiet_none (Ok w) = tt
quiet_none (Err t) = tt

pub load_none : (r : Result ℕ Trap) → HasNoUnlock (load_due r)
load_none (Ok c) = tt
load_none (Err t) = tt

pub store_none : (r : Result ℕ Trap) (w : ℕ) → HasNoUnlock (store_due r w)
store_none (Ok c) w = tt
store_none (Err t) w = tt

pub malloc_none : (unit arena end : ℕ) (n : ℤ) → HasNoUnlock (malloc_due unit arena end n)
malloc_none unit arena end n = if_none (is_size unit n) _ _ (if_none (nat_le (arena + cells_in n) end) _ _ tt tt) tt

mark_none : (o : Option ℕ) → HasNoUnlock (mark_if o)
mark_none None = tt
mark_none (Some arena) = tt

pub enter_none : (code : Code) (s : SetupView) (t : ℕ) (th : Thread) (frames f : ℕ) → HasNoUnlock (enter_due code s t th frames f)
enter_none code s t th frames f = if_none (nat_le s.limit th.count) _ _ tt (if_none (nat_le most_frames frames) _ _ tt (mark_none _))

end_none : (m : Bool) (t made value : ℕ) → HasNoUnlock (end_due m t made value)
end_none true t made value = refl
end_none false t zero value = tt
end_none false t (suc zero) value = refl
end_none false t (suc (suc n)) value = refl

pub return_none : (code : Code) (t : ℕ) (th : Thread) (value : ℕ) → HasNoUnlock (return_due code t th value)
return_none code t th value = if_none (length th.below == 0) _ _ (end_none (is_main code th.top.function) t th.top.made value) tt

pub begun_none : (code : Code) (s : SetupView) (t : ℕ) (th : Thread) (f : ℕ) → HasNoUnlock (begun_due code s t th f)
begun_none code s zero th f = enter_none code s zero th 0 f
begun_none code s (suc k) th f = tt
