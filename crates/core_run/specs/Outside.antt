-- Threads that come to a load or store of a cell that the machine doesn't have.
use Rattle.std.specs.Prelude.{◌≡◌, ℕ, ◌-◌, ◌<◌, nat_lt, Bool, true, false, not, Some, slice_get}
use Rattle.sync_objects.specs.Setup.{SetupView}
use Rattle.sync_objects.specs.declared.entry.Entry.{Entry}
use Rattle.word_semantics.specs.declared.event.Action.{Action}
use Rattle.word_semantics.specs.declared.event.Action.TheVariants as action
use Rattle.flow_code.specs.declared.code.Code.{Code}
use Rattle.flow_code.specs.Settle.{next}
use Rattle.core_run.specs.Machine.{Told, machine}
use Rattle.core_run.specs.Words.{cells_of}
use Rattle.run_theory.specs.Steps.{State, count_of}
use Rattle.run_theory.specs.Walk.{alone}

-- the action is a load or store of a cell that the machine doesn't have
abbrev pub is_outside : Code → SetupView → Action → Bool
is_outside code s action.Quiet = false
is_outside code s (action.Load c) = not (nat_lt c (cells_of code s))
is_outside code s (action.Store c w) = not (nat_lt c (cells_of code s))
is_outside code s (action.Operate o obj) = false
is_outside code s action.Mark = false
is_outside code s action.Ended = false

-- such an action comes next in thread t
pub record ComesOutside (code : Code) (s : SetupView) (t : ℕ) (st : State Told) : Type 0 where
  pub told : Told
  pub at : slice_get st.threads t ≡ Some told
  pub outside : is_outside code s (next code s t told.thread) ≡ true

-- such an action comes next in thread t once it has made fewer than n loads, stores and marks alone
pub record GoesOutside (code : Code) (s : SetupView) (n t : ℕ) (st : State Told) : Type 0 where
  pub steps : ℕ
  pub fewer : steps < n
  pub last : State Told
  pub goes : alone (machine code s) steps t st ≡ Some last
  pub comes : ComesOutside code s t last

-- such an action comes next in the entry's thread at a count below the entry's
abbrev pub IsOutside : Code → SetupView → Entry → State Told → Type 0
IsOutside code s e st = GoesOutside code s (e.count - count_of (machine code s) st e.thread) e.thread st
