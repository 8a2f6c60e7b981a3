-- Runs of a code with weak locks as runs of a source: without what is done to stripes of these locks.
use Rattle.std.specs.Prelude.{List}
use Rattle.sync_objects.specs.Setup.{SetupView}
use Rattle.sync_objects.specs.declared.entry.Entry.{Entry}
use Rattle.flow_code.specs.declared.code.Code.{Code}
use Rattle.core_tree.specs.Runs.{Run}
use Rattle.run_theory.specs.Labels.{Label}
use Rattle.lowering_simulation.specs.RunEvents.{events_of_run, without_stripes}
use Rattle.lowering_simulation.specs.SourceRuns.{ThreadTransition}
use Rattle.lowering_simulation.specs.WalkEvents.{events_of_walk}

-- the events of a run from the start, without those of stripes
abbrev pub erased_events : Code → SetupView → List Label → List ThreadTransition
erased_events code s labels = without_stripes (events_of_run code s labels)

-- those of a walk
abbrev pub erased_walk : Code → SetupView → List Entry → List ThreadTransition
erased_walk code s entries = without_stripes (events_of_walk code s entries)

-- A thread lists its operations on stripes too, so its list may be full anywhere in its run.
abbrev pub IsAnywhere : Run → Type 0
IsAnywhere r = Unit {0}
