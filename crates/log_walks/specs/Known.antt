-- What the entries of a log decide by themselves: whether an object ever allows an entry after those that stand before it, where
-- the operations' names, their threads and the setup's slots tell, whatever the threads compute.
use Rattle.std.specs.Prelude.{◌≡◌, ℕ, ◌<◌, if◌then◌else◌, pos, List, [], ◌∷◌, take, Option, Some, None, slice_get}
use Rattle.sync_objects.specs.Advance.{Advance, NotAllowed, Advances, advanced}
use Rattle.sync_objects.specs.Names.{Fits}
use Rattle.sync_objects.specs.Start.{start_word}
use Rattle.sync_objects.specs.declared.entry.Entry.{Entry}
use Rattle.sync_objects.specs.declared.object.ObjId.{ObjId}
use Rattle.sync_objects.specs.declared.operation.Op.{Op}
use Rattle.sync_objects.specs.declared.operation.Op.TheVariants as op
use Rattle.sync_objects.specs.declared.operation.OpName.{OpName}
use Rattle.sync_objects.specs.declared.operation.OpName.TheVariants as name
use Rattle.run_theory.specs.Same.{same_object}

-- the operation of a name that decides what its object allows. Threads are drawn among the setup's slots, and which function is
-- started doesn't matter. None where it depends on what a thread has been told or computed
abbrev pub known_op : ℕ → OpName → Option Op
known_op slots name.Lock = Some op.Lock
known_op slots name.TryLock = Some op.TryLock
known_op slots name.Unlock = Some op.Unlock
known_op slots name.MutexInit = Some op.MutexInit
known_op slots name.CondEnter = None
known_op slots name.CondWake = None
known_op slots name.Signal = None
known_op slots name.BarrierInit = None
known_op slots name.Arrive = None
known_op slots name.Pass = None
known_op slots name.RdLock = Some op.RdLock
known_op slots name.WrLock = Some op.WrLock
known_op slots name.RwUnlock = Some op.RwUnlock
known_op slots name.RwInit = Some op.RwInit
known_op slots name.Take = Some op.Take
known_op slots name.Retake = Some op.Retake
known_op slots name.Give = Some op.Give
known_op slots name.Revoke = Some op.Revoke
known_op slots name.Draw = Some (op.Draw slots)
known_op slots name.Start = Some (op.Start 0)
known_op slots name.Begin = Some op.Begin
known_op slots name.End = Some op.End
known_op slots name.Join = Some op.Join
known_op slots name.Close = Some op.Close
known_op slots name.Leave = Some op.Leave
known_op slots name.HaltAll = Some op.HaltAll
known_op slots name.TrapHere = Some op.TrapHere
known_op slots name.Stop = Some op.Stop
known_op slots name.GetChar = None
known_op slots name.Print = None

-- what an operation by thread t does to a word; where it isn't known, nothing is said against it and the word stays
abbrev pub op_advance : Option Op → ℕ → ℕ → Advance
op_advance None t word = Advances word (pos 0)
op_advance (Some o) t word = advanced o t word

-- what an entry does to the word of its object, by its name
abbrev pub known_advance : ℕ → Entry → ℕ → Advance
known_advance slots e word = op_advance (known_op slots e.op) e.thread word

-- the word after an entry; it stays where the entry isn't allowed
abbrev pub word_after : ℕ → Advance → ℕ
word_after word NotAllowed = word
word_after word (Advances next answer) = next

-- an object's word after an entry of the log
abbrev pub word_past : ℕ → ObjId → Entry → ℕ → ℕ
word_past slots o e word = if same_object e.obj o then word_after word (known_advance slots e word) else word

-- an object's word after these entries of the log, from this word on
abbrev pub known_word : ℕ → ObjId → List Entry → ℕ → ℕ
known_word slots o [] word = word
known_word slots o (e ∷ es) word = known_word slots o es (word_past slots o e word)

-- after the entries before it the entry's object never allows it, or its operation isn't one on such an object
abbrev pub IsNeverAllowed : ℕ → List Entry → Entry → Type 0
IsNeverAllowed slots before e = Fits e.op e.obj → known_advance slots e (known_word slots e.obj before (start_word e.obj)) ≡ NotAllowed

-- the entry at this position of the log is never allowed
abbrev pub IsWrongAt : ℕ → List Entry → ℕ → Type 0
IsWrongAt slots es position = (e : Entry) × (slice_get es position ≡ Some e) × IsNeverAllowed slots (take position es) e

-- no entry of the log before this position is one that is never allowed
abbrev pub NoneIsWrong : ℕ → List Entry → ℕ → Type 0
NoneIsWrong slots es end = (k : ℕ) → k < end → IsWrongAt slots es k → ⊥
