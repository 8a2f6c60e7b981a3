-- Which locks the operations of a log get and let go: a log keeps no answers, but the operations before an entry tell who held what.
use Rattle.std.specs.Prelude.{ℕ, ◌==◌, ◌&&◌, Bool, true, false, if◌then◌else◌, List, [], ◌∷◌, Option, Some, None}
use Rattle.run_theory.specs.Same.{same_object}
use Rattle.sync_objects.specs.declared.entry.Entry.{Entry}
use Rattle.sync_objects.specs.declared.mode.Mode.{Mode}
use Rattle.sync_objects.specs.declared.mode.Mode.TheVariants.{Read, Write}
use Rattle.sync_objects.specs.declared.object.ObjId.{ObjId}
use Rattle.sync_objects.specs.declared.operation.OpName.{OpName}
use Rattle.sync_objects.specs.declared.operation.OpName.TheVariants as name

-- the thread that holds a mutex after an operation on it by thread t: none where nobody does
abbrev pub holder_after : OpName → ℕ → Option ℕ → Option ℕ
holder_after name.Lock t None = Some t
holder_after name.TryLock t None = Some t
holder_after name.Unlock t (Some u) = if u == t then None else Some u
holder_after o t before = before

-- the same after any entry of a log
abbrev pub holder_step : ObjId → Entry → Option ℕ → Option ℕ
holder_step mutex e before = if same_object e.obj mutex then holder_after e.op e.thread before else before

-- .. and after all of these entries, where this thread held it before them
abbrev pub holder_over : ObjId → Option ℕ → List Entry → Option ℕ
holder_over mutex before [] = before
holder_over mutex before (e ∷ es) = holder_over mutex (holder_step mutex e before) es

-- in which mode a thread holds a read-write lock after an operation on it by the thread itself: none where it doesn't hold it
abbrev pub hold_after : OpName → Option Mode → Option Mode
hold_after name.RdLock None = Some Read
hold_after name.WrLock None = Some Write
hold_after name.RwUnlock held = None
hold_after o held = held

-- the same of thread t after any entry of a log: what others do changes nothing
abbrev pub hold_step : ObjId → ℕ → Entry → Option Mode → Option Mode
hold_step lock t e held = if same_object e.obj lock && (e.thread == t) then hold_after e.op held else held

-- .. and after all of these entries, where it held the lock in this mode before them
abbrev pub hold_over : ObjId → ℕ → Option Mode → List Entry → Option Mode
hold_over lock t held [] = held
hold_over lock t held (e ∷ es) = hold_over lock t (hold_step lock t e held) es

-- the mode in which a lock is got that nobody held, or that its thread didn't hold
abbrev pub unless_held : {A : Type 0} → Option A → Mode → Option Mode
unless_held None mode = Some mode
unless_held (Some held) mode = None

-- the mode in which the entry after these lets a lock or a stripe go: none where it lets nothing go
abbrev pub released_by : List Entry → Entry → OpName → Option Mode
released_by before e name.Unlock = Some Write
released_by before e name.Give = Some Write
released_by before e name.Revoke = Some Write
released_by before e name.RwUnlock = hold_over e.obj e.thread None before
released_by before e _ = None

abbrev pub released : List Entry → Entry → Option Mode
released before e = released_by before e e.op

-- the mode in which the entry after these gets a lock or a stripe: none where it gets nothing
abbrev pub acquired_by : List Entry → Entry → OpName → Option Mode
acquired_by before e name.Lock = Some Write
acquired_by before e name.TryLock = unless_held (holder_over e.obj None before) Write
acquired_by before e name.Take = Some Write
acquired_by before e name.Retake = Some Write
acquired_by before e name.RdLock = unless_held (hold_over e.obj e.thread None before) Read
acquired_by before e name.WrLock = unless_held (hold_over e.obj e.thread None before) Write
acquired_by before e _ = None

abbrev pub acquired : List Entry → Entry → Option Mode
acquired before e = acquired_by before e e.op
