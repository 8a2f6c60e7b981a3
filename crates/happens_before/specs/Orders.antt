-- Runs and walks in which conflicting accesses are ordered.
use Rattle.std.specs.Prelude.{◌≡◌, ◌<◌, ◌≢◌, ℕ, List, Some}
use Rattle.core_run.specs.Machine.{machine, start_state}
use Rattle.flow_code.specs.declared.code.Code.{Code}
use Rattle.run_theory.specs.Labels.{Label}
use Rattle.run_theory.specs.Laws.{Conflict}
use Rattle.run_theory.specs.Ordered.{Event, event_access, event_at, event_thread, Ordered}
use Rattle.lowering_simulation.specs.WalkEvents.{labels_of_walk}
use Rattle.sync_objects.specs.Setup.{SetupView}
use Rattle.sync_objects.specs.declared.entry.Entry.{Entry}

-- each two conflicting accesses of two threads in the run are ordered by operations, each of which passes its object on
abbrev pub AreOrdered : Code → SetupView → List Label → Type 0
AreOrdered code s labels =
    let events = event_at (machine code s) labels (start_state code s) in
    (i j : ℕ) (first second : Event) → i < j → events i ≡ Some first → events j ≡ Some second → event_thread first ≢ event_thread second → Conflict (event_access first) (event_access second) → Ordered events i j

-- .. in the walk of the entries, whose operations are these entries
abbrev pub IsOrderedWalk : Code → SetupView → List Entry → Type 0
IsOrderedWalk code s entries = AreOrdered code s (labels_of_walk code s entries)
