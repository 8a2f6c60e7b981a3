-- The words of objects before any operation.
use Rattle.std.specs.Prelude.{ℕ, zero, suc}
use Rattle.sync_objects.specs.declared.object.ObjId.{ObjId}
use Rattle.sync_objects.specs.declared.object.ObjId.TheVariants as object
use Rattle.sync_objects.specs.Names.{object_kind}
use Rattle.sync_objects.specs.States.{Free, Waits, Shared, Idle, Begun, Counts, Running, Epoch, Position, Open, StateOf}
use Rattle.sync_objects.specs.Packing.{packed}
use Rattle.sync_objects.specs.Words.{word_of}

-- the state of an object at the start: all is free, idle and empty, but that thread 0 is drawn, live and has begun
abbrev pub start_state : (o : ObjId) → StateOf (object_kind o)
start_state (object.Mutex cell) = Free
start_state (object.Cond cell) = Epoch 0
start_state (object.Barrier cell) = Waits 0 0 0
start_state (object.Rw cell) = Shared 0 Free
start_state (object.Weak lock stripe) = Free
start_state (object.Slot zero) = Begun
start_state (object.Slot (suc k)) = Idle
start_state object.Threads = Counts 1 1
start_state object.Halt = Running
start_state object.Input = Position 0
start_state object.Output = Open

-- the number of that state
unfoldable pub packed_start : ObjId → ℕ
packed_start o = packed (object_kind o) (start_state o)

-- the word of an object at the start, whose number is 0
abbrev pub start_word : ObjId → ℕ
start_word o = word_of 0 (packed_start o)
