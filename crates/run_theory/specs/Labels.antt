-- The labels of steps, and the label with which an entry of a log is made.
use Rattle.std.specs.Prelude.{ℕ}
use Rattle.sync_objects.specs.declared.entry.Entry.{Entry}
use Rattle.sync_objects.specs.declared.object.ObjId.{ObjId}
use Rattle.sync_objects.specs.declared.object.ObjId.TheVariants.{Weak}
use Rattle.sync_objects.specs.declared.operation.OpName.{OpName}
use Rattle.sync_objects.specs.declared.operation.OpName.TheVariants.{Revoke as RevokeOp, Stop as StopOp, Close as CloseOp}

-- a step of a thread: its own next one, or one that is made of it from outside
pub data Label : Type 0 where
  Go : (thread : ℕ) → Label
  Revoke : (thread : ℕ) → (lock : ℕ) → (stripe : ℕ) → Label
  Stop : (thread : ℕ) → Label
  Close : (thread : ℕ) → Label

-- the thread that the step changes, even where it comes from outside
abbrev pub label_thread : Label → ℕ
label_thread (Go t) = t
label_thread (Revoke t lock stripe) = t
label_thread (Stop t) = t
label_thread (Close t) = t

-- a revoke is made of a stripe; no other object has one
abbrev pub revoke_label : ℕ → ObjId → Label
revoke_label t (Weak lock stripe) = Revoke t lock stripe
revoke_label t _ = Go t

-- only revokes, stops and closes come from outside the thread
abbrev pub operation_label : ℕ → OpName → ObjId → Label
operation_label t RevokeOp obj = revoke_label t obj
operation_label t StopOp obj = Stop t
operation_label t CloseOp obj = Close t
operation_label t _ obj = Go t

-- the label that adds the entry: revokes, stops and closes are made from outside, every other operation is the thread's own
abbrev pub label_of : Entry → Label
label_of e = operation_label e.thread e.op e.obj
