-- The walk of a list of entries as a run, and what the threads do in it.
use Rattle.std.specs.Prelude.{◌-◌, List, [], ◌∷◌, ◌++◌, replicate, Option, Some, None}
use Rattle.sync_objects.specs.Setup.{SetupView}
use Rattle.sync_objects.specs.declared.entry.Entry.{Entry}
use Rattle.flow_code.specs.declared.code.Code.{Code}
use Rattle.core_run.specs.Machine.{Told, machine, start_state}
use Rattle.run_theory.specs.Labels.{Label, Go, label_of}
use Rattle.run_theory.specs.Steps.{State, count_of}
use Rattle.run_theory.specs.Walk.{part}
use Rattle.lowering_simulation.specs.SourceRuns.{ThreadTransition}
use Rattle.lowering_simulation.specs.RunEvents.{events_of_run}

module _ (code : Code) (s : SetupView) where
  -- the part of an entry: its thread goes alone up to the entry's count, and the entry is made
  abbrev pub part_labels : Entry → State Told → List Label
  part_labels e st = replicate (e.count - count_of (machine code s) st e.thread) (Go e.thread) ++ label_of e ∷ []

  abbrev pub labels_on : (State Told → List Label) → Option (State Told) → List Label
  labels_on rest None = []
  labels_on rest (Some st) = rest st

  -- the parts of all entries, one after another
  abbrev pub labels_from : List Entry → State Told → List Label
  labels_from [] st = []
  labels_from (e ∷ es) st = part_labels e st ++ labels_on (labels_from es) (part (machine code s) e st)

  abbrev pub labels_of_walk : List Entry → List Label
  labels_of_walk es = labels_from es (start_state code s)

  -- the events of the walk, with their threads
  abbrev pub events_of_walk : List Entry → List ThreadTransition
  events_of_walk es = events_of_run code s (labels_of_walk es)
