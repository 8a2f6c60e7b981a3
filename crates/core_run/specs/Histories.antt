-- Runs of the machine from its start, and the lists of entries that they leave.
use Rattle.std.specs.Prelude.{◌≡◌, ℕ, List, [], map, Option, Some, None, slice_get}
use Rattle.sync_objects.specs.Setup.{SetupView}
use Rattle.sync_objects.specs.declared.entry.Entry.{Entry}
use Rattle.sync_objects.specs.declared.entry.Noted.{Noted}
use Rattle.word_semantics.specs.declared.event.Action.TheVariants.{Ended}
use Rattle.flow_code.specs.declared.code.Code.{Code}
use Rattle.flow_code.specs.Settle.{next}
use Rattle.core_run.specs.Machine.{Told, effect_of, machine, start_state}
use Rattle.run_theory.specs.Labels.{Go, Label}
use Rattle.run_theory.specs.Laws.{IsRaceFree}
use Rattle.run_theory.specs.Steps.{AllEnded, Reaches, Refused, State, run}

-- the state after a run from the start
abbrev pub run_of : Code → SetupView → List Label → Option (State Told)
run_of code s labels = run (machine code s) labels (start_state code s)

-- some run from the start leads to the state
abbrev pub IsReachable : Code → SetupView → State Told → Type 0
IsReachable code s st = Reaches (machine code s) (start_state code s) st

-- in no state that can be reached do two threads race
abbrev pub HasNoRace : Code → SetupView → Type 0
HasNoRace code s = IsRaceFree (machine code s) (start_state code s)

-- the machine has each cell and each object that a next action names: in no state that can be reached does it refuse a thread's
-- own step but where none comes next
abbrev pub HasItsCells : Code → SetupView → Type 0
HasItsCells code s = (state : State Told) (t : ℕ) (told : Told) → IsReachable code s state → slice_get state.threads t ≡ Some told → effect_of code s (Go t) told ≡ Refused → next code s t told.thread ≡ Ended

-- all threads have ended
abbrev pub HaveEnded : Code → SetupView → State Told → Type 0
HaveEnded code s st = AllEnded (machine code s) st

-- the entries of one thread, and those of all threads in order
abbrev pub list_in : Option Told → List Noted
list_in None = []
list_in (Some told) = told.entries

-- those of thread t; none where the machine has no such thread
abbrev pub list_of : State Told → ℕ → List Noted
list_of st t = list_in (slice_get st.threads t)

-- one list for each thread, in the order of their numbers
abbrev pub lists_of : State Told → List (List Noted)
lists_of st = map (λ (told : Told). told.entries) st.threads

-- the entries without their numbers
abbrev pub entries_in : List Noted → List Entry
entries_in xs = map (λ (x : Noted). x.entry) xs
