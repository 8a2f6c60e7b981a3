-- The kinds of objects and of operations, which operation fits which object, and what operations are called.
use Rattle.std.specs.Prelude.{◌≡◌, Bool, true, false}
use Rattle.sync_objects.specs.declared.kind.ObjKind.{ObjKind}
use Rattle.sync_objects.specs.declared.kind.ObjKind.TheVariants as kind
use Rattle.sync_objects.specs.declared.object.ObjId.{ObjId}
use Rattle.sync_objects.specs.declared.object.ObjId.TheVariants as object
use Rattle.sync_objects.specs.declared.operation.Op.{Op}
use Rattle.sync_objects.specs.declared.operation.Op.TheVariants as op
use Rattle.sync_objects.specs.declared.operation.OpName.{OpName}
use Rattle.sync_objects.specs.declared.operation.OpName.TheVariants as name

-- the name of an operation: the operation without what it carries
abbrev pub name_of : Op → OpName
name_of op.Lock = name.Lock
name_of op.TryLock = name.TryLock
name_of op.Unlock = name.Unlock
name_of op.MutexInit = name.MutexInit
name_of op.CondEnter = name.CondEnter
name_of (op.CondWake epoch) = name.CondWake
name_of op.Signal = name.Signal
name_of (op.BarrierInit count) = name.BarrierInit
name_of op.Arrive = name.Arrive
name_of (op.Pass generation) = name.Pass
name_of op.RdLock = name.RdLock
name_of op.WrLock = name.WrLock
name_of op.RwUnlock = name.RwUnlock
name_of op.RwInit = name.RwInit
name_of op.Take = name.Take
name_of op.Retake = name.Retake
name_of op.Give = name.Give
name_of op.Revoke = name.Revoke
name_of (op.Draw slots) = name.Draw
name_of (op.Start function) = name.Start
name_of op.Begin = name.Begin
name_of op.End = name.End
name_of op.Join = name.Join
name_of op.Close = name.Close
name_of op.Leave = name.Leave
name_of op.HaltAll = name.HaltAll
name_of op.TrapHere = name.TrapHere
name_of op.Stop = name.Stop
name_of (op.GetChar len) = name.GetChar
name_of op.Print = name.Print

-- the kind of the objects on which the operation is made
abbrev pub kind_of : OpName → ObjKind
kind_of name.Lock = kind.Mutex
kind_of name.TryLock = kind.Mutex
kind_of name.Unlock = kind.Mutex
kind_of name.MutexInit = kind.Mutex
kind_of name.CondEnter = kind.Cond
kind_of name.CondWake = kind.Cond
kind_of name.Signal = kind.Cond
kind_of name.BarrierInit = kind.Barrier
kind_of name.Arrive = kind.Barrier
kind_of name.Pass = kind.Barrier
kind_of name.RdLock = kind.Rw
kind_of name.WrLock = kind.Rw
kind_of name.RwUnlock = kind.Rw
kind_of name.RwInit = kind.Rw
kind_of name.Take = kind.Weak
kind_of name.Retake = kind.Weak
kind_of name.Give = kind.Weak
kind_of name.Revoke = kind.Weak
kind_of name.Draw = kind.Threads
kind_of name.Start = kind.Slot
kind_of name.Begin = kind.Slot
kind_of name.End = kind.Slot
kind_of name.Join = kind.Slot
kind_of name.Close = kind.Slot
kind_of name.Leave = kind.Threads
kind_of name.HaltAll = kind.Halt
kind_of name.TrapHere = kind.Halt
kind_of name.Stop = kind.Halt
kind_of name.GetChar = kind.Input
kind_of name.Print = kind.Output

-- the kind of an object
abbrev pub object_kind : ObjId → ObjKind
object_kind (object.Mutex cell) = kind.Mutex
object_kind (object.Cond cell) = kind.Cond
object_kind (object.Barrier cell) = kind.Barrier
object_kind (object.Rw cell) = kind.Rw
object_kind (object.Weak lock stripe) = kind.Weak
object_kind (object.Slot slot) = kind.Slot
object_kind object.Threads = kind.Threads
object_kind object.Halt = kind.Halt
object_kind object.Input = kind.Input
object_kind object.Output = kind.Output

-- the operation fits the object's kind
abbrev pub Fits : OpName → ObjId → Type 0
Fits op obj = kind_of op ≡ object_kind obj

-- the entries with which a thread ends: the end of its function and leaving the live ones, an end of the whole
-- program by it, being stopped, and being closed before it began
abbrev pub is_ending : OpName → Bool
is_ending name.End = true
is_ending name.Leave = true
is_ending name.HaltAll = true
is_ending name.TrapHere = true
is_ending name.Stop = true
is_ending name.Close = true
is_ending _ = false

-- the operations on stripes of weak locks, which no program asks for itself
abbrev pub is_weak : OpName → Bool
is_weak name.Take = true
is_weak name.Retake = true
is_weak name.Give = true
is_weak name.Revoke = true
is_weak _ = false
