-- Tests of whether two objects, two operations or two entries are the same.
use Rattle.std.specs.Prelude.{ℕ, Bool, true, false, ◌&&◌, ◌==◌}
use Rattle.sync_objects.specs.declared.entry.Entry.{Entry}
use Rattle.sync_objects.specs.declared.object.ObjId.{ObjId}
use Rattle.sync_objects.specs.declared.object.ObjId.TheVariants.{Mutex, Cond, Barrier, Rw, Weak, Slot, Threads, Halt, Input, Output}
use Rattle.sync_objects.specs.declared.operation.OpName.{OpName}
use Rattle.sync_objects.specs.declared.operation.OpName.TheVariants.{Lock, TryLock, Unlock, MutexInit, CondEnter, CondWake, Signal, BarrierInit, Arrive, Pass, Take, Retake, Give, Revoke, Draw, Start, Begin, End, Join, Close, Leave, HaltAll, TrapHere, Stop, GetChar, Print, RdLock, WrLock, RwUnlock, RwInit}

-- the same kind with the same numbers
abbrev pub same_object : ObjId → ObjId → Bool
same_object (Mutex c) (Mutex d) = c == d
same_object (Cond c) (Cond d) = c == d
same_object (Barrier c) (Barrier d) = c == d
same_object (Rw c) (Rw d) = c == d
same_object (Weak l s) (Weak m r) = (l == m) && (s == r)
same_object (Slot k) (Slot n) = k == n
same_object Threads Threads = true
same_object Halt Halt = true
same_object Input Input = true
same_object Output Output = true
same_object _ _ = false

-- the place of an operation in the list of all operations
abbrev pub operation_index : OpName → ℕ
operation_index Lock = 0
operation_index TryLock = 1
operation_index Unlock = 2
operation_index MutexInit = 3
operation_index CondEnter = 4
operation_index CondWake = 5
operation_index Signal = 6
operation_index BarrierInit = 7
operation_index Arrive = 8
operation_index Pass = 9
operation_index Take = 10
operation_index Retake = 11
operation_index Give = 12
operation_index Revoke = 13
operation_index Draw = 14
operation_index Start = 15
operation_index Begin = 16
operation_index End = 17
operation_index Join = 18
operation_index Close = 19
operation_index Leave = 20
operation_index HaltAll = 21
operation_index TrapHere = 22
operation_index Stop = 23
operation_index GetChar = 24
operation_index Print = 25
operation_index RdLock = 26
operation_index WrLock = 27
operation_index RwUnlock = 28
operation_index RwInit = 29

-- by their places in the list of all operations
abbrev pub same_operation : OpName → OpName → Bool
same_operation a b = operation_index a == operation_index b

-- in all four parts that a log's entry has
abbrev pub same_entry : Entry → Entry → Bool
same_entry a b = (a.thread == b.thread) && (a.count == b.count) && same_operation a.op b.op && same_object a.obj b.obj
