-- What a recording leaves of a run: its log, and what that log's walk comes to.
use Rattle.std.specs.Prelude.{◌≡◌, List, Some}
use Rattle.sync_objects.specs.Setup.{SetupView}
use Rattle.sync_objects.specs.declared.entry.Entry.{Entry}
use Rattle.flow_code.specs.declared.code.Code.{Code}
use Rattle.thread_interpreter.specs.declared.access.Formula.{Formula}
use Rattle.core_run.specs.declared.outcome.Walk.{Walk}
use Rattle.core_run.specs.declared.outcome.Walk.TheVariants as walk
use Rattle.core_run.specs.Histories.{run_of, HaveEnded, lists_of, entries_in}
use Rattle.core_run.specs.Machine.{Told, start_state}
use Rattle.core_run.specs.Walks.{WalkIs, walk_of}
use Rattle.run_theory.specs.Labels.{Label}
use Rattle.run_theory.specs.Merge.{written_merge}
use Rattle.run_theory.specs.Steps.{State}

-- the walk takes all entries, and all threads have ended
abbrev pub IsWholeWalk : Walk → Type 0
IsWholeWalk (walk.Wrong at) = ⊥
IsWholeWalk _ = Unit {0}

-- The entries are the written merge of the lists of a run in which all threads have ended, and their walk comes to that run's
-- end.
pub record Records (code : Code) (s : SetupView) (f : Formula) (entries : List Entry) (w : Walk) : Type 0 where
  pub labels : List Label
  pub end : State Told
  pub ran : run_of code s labels ≡ Some end
  pub ended : HaveEnded code s end
  pub log : entries ≡ entries_in (written_merge (lists_of end))
  pub same : walk_of code s entries (start_state code s) ≡ Some end
  pub walk : WalkIs code s entries f w
  pub whole : IsWholeWalk w
