-- The frames of a thread with the locks that a solution of the analysis gives for their points.
use Rattle.std.specs.Prelude.{◌≡◌, ℕ, suc, ◌+◌, ◌*◌, ◌&&◌, Bool, true, false, if◌then◌else◌, ℤ, List, [], ◌∷◌, reverse, Option, Some, slice_get}
use Rattle.std.specs.List.{Contains}
use Rattle.sync_objects.specs.Setup.{SetupView}
use Rattle.rr_base.specs.declared.layout.CellKind.{CellKind}
use Rattle.rr_base.specs.declared.layout.CellKind.TheVariants as kind
use Rattle.sync_objects.specs.declared.mode.Mode.{Mode}
use Rattle.sync_objects.specs.declared.mode.Mode.TheVariants.{Read, Write}
use Rattle.sync_objects.specs.declared.object.ObjId.TheVariants.{Mutex, Rw}
use Rattle.word_semantics.specs.declared.library_call.LibraryCall.{LibraryCall}
use Rattle.word_semantics.specs.declared.library_call.LibraryCall.TheVariants as call
use Rattle.word_semantics.specs.Library.{argument, is_misuse}
use Rattle.word_semantics.specs.Registers.{register, words_of}
use Rattle.flow_code.specs.declared.act.Act.{Act}
use Rattle.flow_code.specs.declared.act.Act.TheVariants as act
use Rattle.flow_code.specs.declared.act.Instr.{Instr}
use Rattle.flow_code.specs.declared.code.Code.{Code}
use Rattle.flow_code.specs.declared.code.Function.{Function}
use Rattle.flow_code.specs.Threads.{Frame, Thread}
use Rattle.facts.specs.Locks.{Points, has_held, held_as, locked, unlocked}
use Rattle.facts.specs.Paths.{naming_at}
use Rattle.facts.specs.Summaries.{StandsAt, Guards}
use Rattle.facts.specs.declared.locks.Guarded.{Guarded}
use Rattle.facts.specs.declared.locks.LockPath.TheVariants.{Cell}
use Rattle.facts.specs.declared.locks.RelLocks.{RelLocks}
use Rattle.facts.specs.declared.locks.Summary.{Summary}
use Rattle.core_run.specs.Machine.{Told}
use Rattle.core_run.specs.Words.{has_object}
use Rattle.lock_ownership.specs.Holders.{holds_lock}
use Rattle.lockset_sound.specs.Leading.{is_fixed, Holds, Mean}
use Rattle.run_theory.specs.Steps.{State}

-- ---- the locks within an instruction

-- the locks once a thread has made so many events of a call and kept the answer of the last one: a lock or an unlock is
-- the first event of its call, and a wait has given its mutex back by its second; a read-write lock whose lock was a misuse is
-- held no more than before
abbrev pub call_so_far : Function → ℕ → LibraryCall → List ℕ → ℕ → (kept : ℤ) → RelLocks → RelLocks
call_so_far f k call.MutexLock (m ∷ []) (suc n) kept l = locked Write (naming_at f k m) l
call_so_far f k call.MutexUnlock (m ∷ []) (suc n) kept l = unlocked (naming_at f k m) l
call_so_far f k call.CondWait (c ∷ m ∷ []) (suc (suc n)) kept l = unlocked (naming_at f k m) l
call_so_far f k call.RwRdLock (m ∷ []) (suc n) kept l = if is_misuse kept then l else locked Read (naming_at f k m) l
call_so_far f k call.RwWrLock (m ∷ []) (suc n) kept l = if is_misuse kept then l else locked Write (naming_at f k m) l
call_so_far f k call.RwUnlock (m ∷ []) (suc n) kept l = unlocked (naming_at f k m) l
call_so_far f k _ arguments made kept l = l

-- an instruction that is half done has changed locks only in library calls
abbrev pub so_far : Function → ℕ → Act → ℕ → (kept : ℤ) → RelLocks → RelLocks
so_far f k (act.Library c arguments into) made kept l = call_so_far f k c arguments made kept l
so_far f k _ made kept l = l

-- ---- frames

-- the locks of the frame's point mean what they say, where `before` was held at its entry and `now` is held
abbrev pub FrameMeans : Code → (slots : ℕ) → List Points → Frame → (before now : Holds) → Type 0
FrameMeans code slots xs frame before now = (fn : Function) (i : Instr) (x : Points) (l : RelLocks) → StandsAt code frame.function frame.instr fn i → slice_get xs frame.function ≡ Some x → slice_get x.before frame.instr ≡ Some l → Mean code slots fn frame.registers (so_far fn frame.instr i.act frame.made frame.kept l) before now

-- the frame f was called by the frame below it, which still stands at this call; the formals that f never assigns hold
-- what they were given
pub record IsCalledBy (code : Code) (f below : Frame) : Type 0 where
  pub caller : Function
  pub called : Function
  pub instr : Instr
  pub arguments : List ℕ
  pub into : Option ℕ
  pub stands : StandsAt code below.function below.instr caller instr
  pub calls : instr.act ≡ act.Call f.function arguments into
  pub there : slice_get code.functions f.function ≡ Some called
  pub handed : (i : ℕ) → is_fixed called i ≡ true → register f.registers i ≡ argument (words_of below.registers arguments) i

-- The frames below f, the latest first, where the locks of `entry` were held as f was entered: for each the locks of its
-- point were those at the entry of the frame that it called.
abbrev pub Levels : Code → (slots : ℕ) → List Points → (entry : Holds) → Frame → List Frame → Type 0
Levels code slots xs entry f [] = Unit {0}
Levels code slots xs entry f (g ∷ gs) = IsCalledBy code f g × (before : Holds) × FrameMeans code slots xs g before entry × Levels code slots xs before g gs

-- the frames of a thread that holds the locks of `now`, the running one first
abbrev pub Stack : Code → (slots : ℕ) → List Points → (now : Holds) → Frame → List Frame → Type 0
Stack code slots xs now f fs = (before : Holds) × FrameMeans code slots xs f before now × Levels code slots xs before f fs

-- of a thread's state, which lists its other frames from the outermost on
abbrev pub ThreadStack : Code → (slots : ℕ) → List Points → (now : Holds) → Thread → Type 0
ThreadStack code slots xs now th = Stack code slots xs now th.top (reverse th.below)

-- the outermost of these frames
abbrev pub root_frame : Frame → List Frame → Frame
root_frame f [] = f
root_frame f (g ∷ gs) = root_frame g gs

-- ---- what a thread holds

-- the cell has a lock of this kind, and its word shows that the thread holds it in this mode
abbrev pub holds_at : Code → SetupView → ℕ → State Told → Holds
holds_at code s t st mode kind.Mutex cell = has_object code s (Mutex cell) && holds_lock code s (Mutex cell) mode t st
holds_at code s t st mode kind.Rw cell = has_object code s (Rw cell) && holds_lock code s (Rw cell) mode t st
holds_at code s t st mode _ cell = false

-- the lock in this global cell is held in this mode
pub record HoldsGlobal (code : Code) (slots : ℕ) (now : Holds) (mode : Mode) (n : ℕ) : Type 0 where
  pub cell_kind : CellKind
  pub kind_is : slice_get code.global_kinds n ≡ Some cell_kind
  pub holds : now mode cell_kind (2 * slots + n) ≡ true

-- ---- accesses

-- An access at which the running frame stands, as the outermost frame's function sees it: it's one of the accesses that the
-- solution gives for that function, and each global lock of it is held.
pub record IsGuarded (code : Code) (slots : ℕ) (xs : List Points) (now : Holds) (f : Frame) (fs : List Frame) (store : Bool) : Type 0 where
  pub row : Guarded
  pub guards : Guards code xs (root_frame f fs).function row
  pub function : row.function ≡ f.function
  pub instr : row.instr ≡ f.instr
  pub store_is : row.store ≡ store
  pub held : (m : Mode) (n : ℕ) → has_held (held_as m (Cell n)) row.plus ≡ true → HoldsGlobal code slots now m n

-- the same by the summaries: the access is in the list of the outermost frame's function
pub record IsListed (code : Code) (slots : ℕ) (ss : List Summary) (now : Holds) (f : Frame) (fs : List Frame) (store : Bool) : Type 0 where
  pub summary : Summary
  pub row : Guarded
  pub summed : slice_get ss (root_frame f fs).function ≡ Some summary
  pub listed : Contains summary.guarded row
  pub function : row.function ≡ f.function
  pub instr : row.instr ≡ f.instr
  pub store_is : row.store ≡ store
  pub held : (m : Mode) (n : ℕ) → has_held (held_as m (Cell n)) row.plus ≡ true → HoldsGlobal code slots now m n
