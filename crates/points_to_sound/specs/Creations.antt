-- Threads that are being created: which slot was drawn, and how far its thread is handed over.
use Rattle.std.specs.Prelude.{◌≡◌, ℕ, zero, suc, ◌<◌, Bool, true, false, ℤ, Option, Some, None, slice_get}
use Rattle.sync_objects.specs.Packing.{slot_of, threads_of}
use Rattle.sync_objects.specs.Setup.{SetupView}
use Rattle.sync_objects.specs.States.{SlotState, Idle, Closed, ThreadsState, Counts}
use Rattle.sync_objects.specs.Words.{state_of}
use Rattle.sync_objects.specs.declared.object.ObjId.TheVariants as object
use Rattle.core_run.specs.Machine.{Told}
use Rattle.run_theory.specs.Steps.{State}
use Rattle.lock_ownership.specs.Holders.{word_of_object}
use Rattle.word_semantics.specs.Library.{slot_in}
use Rattle.word_semantics.specs.declared.library_call.LibraryCall.TheVariants as call
use Rattle.flow_code.specs.declared.act.Act.{Act}
use Rattle.flow_code.specs.declared.act.Act.TheVariants as act
use Rattle.flow_code.specs.declared.code.Code.{Code}
use Rattle.flow_code.specs.declared.thread.Phase.{Phase}
use Rattle.flow_code.specs.declared.thread.Phase.TheVariants as phase
use Rattle.flow_code.specs.Next.{act_at}
use Rattle.flow_code.specs.Threads.{Frame, Thread}

-- a thread that is being created: its slot, its function, and whether its argument has been handed over
pub record Creation : Type 0 where
  pub slot : ℕ
  pub function : ℕ
  pub handed : Bool

-- `pthread_create` after its draw; from its second event on handed over
abbrev pub creation_at : Option Act → ℕ → ℤ → Option Creation
creation_at (Some (act.Library (call.Create f) arguments into)) (suc zero) kept = Some (record { slot = slot_in kept; function = f; handed = false })
creation_at (Some (act.Library (call.Create f) arguments into)) (suc (suc n)) kept = Some (record { slot = slot_in kept; function = f; handed = true })
creation_at _ made kept = None

-- only a running thread can be at such a call
abbrev pub creation_in : Code → Frame → Phase → Option Creation
creation_in code f phase.Running = creation_at (act_at code f) f.made f.kept
creation_in code f _ = None

-- the thread that this one has drawn a number for, and not yet started
abbrev pub creation : Code → Thread → Option Creation
creation code th = creation_in code th.top th.phase

-- the slot was started, and may have gone on from there
abbrev pub was_started : SlotState → Bool
was_started Idle = false
was_started Closed = false
was_started _ = true

-- the state of a slot, and how many threads were drawn, as their words tell
abbrev pub slot_state : Code → SetupView → State Told → ℕ → SlotState
slot_state code s st k = slot_of (state_of (word_of_object code s (object.Slot k) st))

-- how many threads were ever drawn, whether or not they live
abbrev pub drawn_in : ThreadsState → ℕ
drawn_in (Counts drawn live) = drawn

-- how many threads were drawn up to this state
abbrev pub drawn : Code → SetupView → State Told → ℕ
drawn code s st = drawn_in (threads_of (state_of (word_of_object code s object.Threads st)))

-- a thread that is being created has a drawn slot of which nothing was started yet
pub record IsCreating (code : Code) (s : SetupView) (st : State Told) (x : Creation) : Type 0 where
  pub few : x.slot < drawn code s st
  pub within : x.slot < s.slots
  pub idle : was_started (slot_state code s st x.slot) ≡ false

-- each number is drawn once, and a slot is started only once its number is drawn
pub record HandsOver (code : Code) (s : SetupView) (st : State Told) : Type 0 where
  pub creating : (t : ℕ) (told : Told) (x : Creation) → slice_get st.threads t ≡ Some told → creation code told.thread ≡ Some x → IsCreating code s st x
  pub one : (t u : ℕ) (told other : Told) (x y : Creation) → slice_get st.threads t ≡ Some told → slice_get st.threads u ≡ Some other → creation code told.thread ≡ Some x → creation code other.thread ≡ Some y → x.slot ≡ y.slot → t ≡ u
  pub started : (k : ℕ) → k < s.slots → was_started (slot_state code s st k) ≡ true → k < drawn code s st
  pub begun : (t f : ℕ) (told : Told) → slice_get st.threads t ≡ Some told → told.thread.phase ≡ phase.Begun f → was_started (slot_state code s st t) ≡ true
