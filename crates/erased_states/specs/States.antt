-- States of a code with weak locks, as states of the code without them.
use Rattle.std.specs.Prelude.{◌≡◌, ℕ, ◌<◌, ◌≤◌, true, false, [], map, Some, slice_get, option_map}
use Rattle.sync_objects.specs.Setup.{SetupView}
use Rattle.sync_objects.specs.declared.kind.ObjKind.TheVariants as kind
use Rattle.sync_objects.specs.declared.object.ObjId.{ObjId}
use Rattle.sync_objects.specs.declared.object.ObjId.TheVariants as object
use Rattle.sync_objects.specs.Packing.{shown}
use Rattle.sync_objects.specs.States.{Idle, Closed, Shut, Running}
use Rattle.word_semantics.specs.declared.event.Action.{Action}
use Rattle.word_semantics.specs.declared.event.Action.TheVariants as action
use Rattle.flow_code.specs.declared.code.Code.{Code}
use Rattle.flow_code.specs.declared.thread.Phase.TheVariants as phase
use Rattle.flow_code.specs.Next.{act_at, has_ended}
use Rattle.flow_code.specs.Settle.{settled, next}
use Rattle.flow_code.specs.Threads.{Frame, Thread, instrs_in}
use Rattle.weak_code.specs.Stripped.{plain_of}
use Rattle.weak_code.specs.Weakened.{retarget}
use Rattle.core_run.specs.Machine.{Told}
use Rattle.core_run.specs.Words.{cells_of, has_object, place_of}
use Rattle.run_theory.specs.Steps.{State}

-- ---- threads

-- how many instructions that aren't weak stand before an instruction of a function
abbrev pub plain_place : Code → (function instr : ℕ) → ℕ
plain_place code f k = plain_of (instrs_in (slice_get code.functions f)) k

-- a frame where it stands once the weak instructions are taken out
abbrev pub plain_frame : Code → Frame → Frame
plain_frame code f = record f { instr = plain_place code f.function f.instr }

-- a thread without its weak locks: its frames stand where they stand without weak instructions, it has no stripes and no
-- regions, and so many entries
abbrev pub plain_thread : Code → (entries : ℕ) → Thread → Thread
plain_thread code entries th = record th { entries = entries; revokes = 0; top = plain_frame code th.top; below = map (plain_frame code) th.below; stripes = []; regions = [] }

-- a thread of the plain code comes by its quiet steps to where this one does without its weak locks, and has no more entries
pub record IsPlainThread (code plain : Code) (s : SetupView) (t : ℕ) (th q : Thread) : Type 0 where
  pub entries : ℕ
  pub few : entries ≤ th.entries
  pub phase : q.phase ≡ th.phase
  pub settles : settled plain s t q ≡ settled plain s t (plain_thread code entries th)

-- ---- words of objects

-- the word of a slot, and that in the plain code's state: they are the same, unless the slot was closed
pub data IsPlainSlot (word plain : ℕ) : Type 0 where
  same : word ≡ plain → IsPlainSlot word plain
  closed : shown kind.Slot word ≡ Closed → shown kind.Slot plain ≡ Idle → IsPlainSlot word plain
  shut : shown kind.Slot word ≡ Shut → IsPlainSlot word plain

-- the word of an object, and that in the plain code's state, which never halts
abbrev pub IsPlainWord : ObjId → (word plain : ℕ) → Type 0
IsPlainWord (object.Slot k) word plain = IsPlainSlot word plain
IsPlainWord object.Halt word plain = shown kind.Halt plain ≡ Running
IsPlainWord o word plain = word ≡ plain

-- ---- states

-- a state of the code with weak locks, and one of the plain code: cells have the same words, and so have objects but for a slot
-- that was closed, for the halt word and for stripes; and each thread that hasn't ended stands where it stands without its
-- weak locks, up to quiet steps
pub record IsPlainState (code plain : Code) (s : SetupView) (st q : State Told) : Type 0 where
  pub cells : (c : ℕ) → c < cells_of code s → slice_get q.words c ≡ slice_get st.words c
  pub objects : (o : ObjId) (w : ℕ) → has_object plain s o ≡ true → slice_get st.words (place_of (cells_of code s) o) ≡ Some w → (v : ℕ) × (slice_get q.words (place_of (cells_of code s) o) ≡ Some v) × IsPlainWord o w v
  pub threads : (t : ℕ) (told : Told) → slice_get st.threads t ≡ Some told → has_ended told.thread.phase ≡ false → (x : Told) × (slice_get q.threads t ≡ Some x) × IsPlainThread code plain s t told.thread x.thread

-- ---- accesses

-- the action is a load or a store
abbrev pub IsAccess : Action → Type 0
IsAccess (action.Load c) = Unit {0}
IsAccess (action.Store c v) = Unit {0}
IsAccess _ = ⊥

-- Both threads come to the same action. After its quiet steps the plain code's thread is the other one without its weak locks,
-- and stands at the same instruction, but for where it jumps.
pub record IsPlainAccess (code plain : Code) (s : SetupView) (t : ℕ) (th q : Thread) (a : Action) : Type 0 where
  pub entries : ℕ
  pub settles : settled plain s t q ≡ plain_thread code entries (settled code s t th)
  pub comes : next plain s t q ≡ a
  pub stands : th.phase ≡ phase.Running → act_at plain (settled plain s t q).top ≡ option_map (retarget (plain_place code (settled code s t th).top.function)) (act_at code (settled code s t th).top)
  pub phase : q.phase ≡ th.phase
