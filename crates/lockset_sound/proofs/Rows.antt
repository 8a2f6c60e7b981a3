-- Rows: the locks within a call, and what a thread's words say of the locks that it holds.
use Rattle.std.proofs.Common.{◌≡◌, ◌∷◌, [], pos, negsuc, refl}
use Rattle.sync_objects.specs.declared.mode.Mode.TheVariants.{Read, Write}
use Rattle.word_semantics.specs.declared.library_call.LibraryCall.TheVariants as call
use Rattle.flow_code.specs.declared.code.Function.{Function}
use Rattle.facts.specs.Locks.{locked, unlocked}
use Rattle.facts.specs.Paths.{naming_at}
use Rattle.facts.specs.declared.locks.RelLocks.{RelLocks}
use Rattle.lockset_sound.specs.Frames.{call_so_far}

module _ (f : Function) (l : RelLocks) where
  -- before its event a lock has got nothing, and after it the mutex
  not_yet : call_so_far f 3 call.MutexLock (1 ∷ []) 0 (pos 0) l ≡ l
  not_yet = refl

  got : call_so_far f 3 call.MutexLock (1 ∷ []) 1 (pos 0) l ≡ locked Write (naming_at f 3 1) l
  got = refl

  -- a read-write lock that is locked for reading, and one whose holder locks it again, which is a misuse
  read_too : call_so_far f 3 call.RwRdLock (1 ∷ []) 1 (pos 0) l ≡ locked Read (naming_at f 3 1) l
  read_too = refl

  misused : call_so_far f 3 call.RwWrLock (1 ∷ []) 1 (negsuc 1) l ≡ l
  misused = refl

  let_go : call_so_far f 3 call.RwUnlock (1 ∷ []) 1 (pos 0) l ≡ unlocked (naming_at f 3 1) l
  let_go = refl

  -- a wait has its mutex until its second event
  waits : call_so_far f 3 call.CondWait (1 ∷ 2 ∷ []) 1 (pos 7) l ≡ l
  waits = refl

  waits_without : call_so_far f 3 call.CondWait (1 ∷ 2 ∷ []) 2 (pos 7) l ≡ unlocked (naming_at f 3 2) l
  waits_without = refl
