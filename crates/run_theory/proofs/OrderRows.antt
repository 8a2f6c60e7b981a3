-- Worked rows of what passes an object on: at each row's words some operations hand it over, and others don't.
use Rattle.std.proofs.Common.{ℕ, true, pos, refl, sym, true≢false}
use Rattle.sync_objects.specs.declared.object.ObjId.TheVariants.{Mutex, Weak, Rw, Slot, Output}
use Rattle.sync_objects.specs.declared.operation.OpName.TheVariants.{Lock, TryLock, Unlock, Retake, Give, Start, Begin, Print, RdLock, WrLock, RwUnlock}
use Rattle.sync_objects.specs.declared.mode.Mode.TheVariants.{Read, Write}
use Rattle.sync_objects.specs.Packing.{packed_rw}
use Rattle.sync_objects.specs.States.{Free, HeldBy, Shared}
use Rattle.sync_objects.specs.Words.{word_of}
use Rattle.run_theory.specs.Ordered.{by_unlock, by_give, by_write_unlock, by_read_unlock, by_lock, by_retake, by_write_lock, by_read_lock, HandsOver, release_to_acquire, start_to_begin}

-- the word of a read-write lock after two operations, which thread 1 holds for reading and nobody else holds
abbrev read_by_one : ℕ
read_by_one = word_of 2 (packed_rw (Shared 2 Free))

-- the word of a read-write lock after two operations, which thread 1 holds for writing
abbrev written_by_one : ℕ
written_by_one = word_of 2 (packed_rw (Shared 0 (HeldBy 1)))

pub unlock_to_lock : (cell thread before : ℕ) → HandsOver (Mutex cell) Unlock thread before Lock (pos 0)
unlock_to_lock cell thread before = release_to_acquire (Mutex cell) Write Write Unlock thread before Lock (pos 0) (by_unlock cell thread before) (by_lock cell (pos 0)) refl

pub give_to_retake : (lock stripe thread before : ℕ) → HandsOver (Weak lock stripe) Give thread before Retake (pos 0)
give_to_retake lock stripe thread before = release_to_acquire (Weak lock stripe) Write Write Give thread before Retake (pos 0) (by_give lock stripe thread before) (by_retake lock stripe (pos 0)) refl

pub a_start_to_a_begin : (slot thread before function : ℕ) → HandsOver (Slot slot) Start thread before Begin (pos function)
a_start_to_a_begin slot thread before function = start_to_begin (Slot slot) thread before (pos function)

pub write_unlock_to_read_lock : (cell : ℕ) → HandsOver (Rw cell) RwUnlock 1 written_by_one RdLock (pos 0)
write_unlock_to_read_lock cell = release_to_acquire (Rw cell) Write Read RwUnlock 1 written_by_one RdLock (pos 0) (by_write_unlock cell 1 written_by_one refl) (by_read_lock cell) refl

pub read_unlock_to_write_lock : (cell : ℕ) → HandsOver (Rw cell) RwUnlock 1 read_by_one WrLock (pos 0)
read_unlock_to_write_lock cell = release_to_acquire (Rw cell) Read Write RwUnlock 1 read_by_one WrLock (pos 0) (by_read_unlock cell 1 read_by_one refl) (by_write_lock cell) refl

-- a print passes nothing to the next one
pub no_print_to_print : (thread before : ℕ) → HandsOver Output Print thread before Print (pos 0) → ⊥
no_print_to_print thread before (release_to_acquire _ a b _ _ _ _ _ release acquire apart) = elim release [ ]

-- a mutex that was found held came from nobody
pub no_unlock_to_busy : (cell thread before : ℕ) → HandsOver (Mutex cell) Unlock thread before TryLock (pos 16) → ⊥
no_unlock_to_busy cell thread before (release_to_acquire _ a b _ _ _ _ _ release acquire apart) = elim acquire [ ]

-- who reads on waits for no reader
pub no_read_unlock_to_read_lock : (cell : ℕ) → HandsOver (Rw cell) RwUnlock 1 read_by_one RdLock (pos 0) → ⊥
no_read_unlock_to_read_lock cell (release_to_acquire _ a b _ _ _ _ _ (by_write_unlock _ _ _ held) acquire apart) = absurd (true≢false (sym held))
no_read_unlock_to_read_lock cell (release_to_acquire _ a b _ _ _ _ _ (by_read_unlock _ _ _ held) (by_read_lock _) apart) = absurd (true≢false (sym apart))

-- the unlock of a thread that didn't hold the lock passes nothing to the one that waits
pub no_misused_unlock : (cell : ℕ) → HandsOver (Rw cell) RwUnlock 0 written_by_one RdLock (pos 0) → ⊥
no_misused_unlock cell (release_to_acquire _ a b _ _ _ _ _ (by_write_unlock _ _ _ held) acquire apart) = absurd (true≢false (sym held))
no_misused_unlock cell (release_to_acquire _ a b _ _ _ _ _ (by_read_unlock _ _ _ held) acquire apart) = absurd (true≢false (sym held))
