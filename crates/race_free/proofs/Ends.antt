-- Where no state is a race, runs with equal lists end in one state, and their logs walk there.
use Rattle.std.proofs.Common.{◌≡◌, ℕ, List, Some}
use Rattle.sync_objects.specs.Setup.{SetupView, IsWithinLimits}
use Rattle.sync_objects.specs.declared.entry.Noted.{Noted}
use Rattle.core_run.specs.Histories.{run_of, HaveEnded, list_of, lists_of, entries_in}
use Rattle.core_run.specs.Machine.{Told, machine, start_state}
use Rattle.core_run.specs.Walks.{walk_of}
use Rattle.core_run.proofs.Lawful.{lawful}
use Rattle.core_run.proofs.WholeRuns.{ends_converge, merges_walk, written_is_merge}
use Rattle.lock_sound.specs.Weakened.{Analysed, IsAnalysed}
use Rattle.lock_sound.proofs.Running.{weakened_runs}
use Rattle.run_theory.specs.Labels.{Label}
use Rattle.run_theory.specs.Merge.{IsMerge, written_merge}
use Rattle.run_theory.specs.Paths.{AreComparable, BeginsLike, StopsBefore, path}
use Rattle.run_theory.specs.Steps.{State}
use Rattle.run_theory.proofs.Prefixes.{comparable_paths}
use Rattle.race_free.proofs.Meeting.{no_race}

module _ (a : Analysed) (setup : SetupView) where
  pub ends_as_one : (labels other : List Label) (end other_end : State Told) → IsAnalysed a → IsWithinLimits setup → run_of a.weak setup labels ≡ Some end → run_of a.weak setup other ≡ Some other_end → HaveEnded a.weak setup end → HaveEnded a.weak setup other_end → ((t : ℕ) → list_of end t ≡ list_of other_end t) → end ≡ other_end
  ends_as_one labels other end other_end h limits = ends_converge a.weak setup (weakened_runs a h) limits labels other end other_end (no_race a setup h limits)

  pub merges : (labels : List Label) (end : State Told) (merged : List Noted) → IsAnalysed a → IsWithinLimits setup → run_of a.weak setup labels ≡ Some end → HaveEnded a.weak setup end → IsMerge (list_of end) merged → walk_of a.weak setup (entries_in merged) (start_state a.weak setup) ≡ Some end
  merges labels end merged h limits runs ended merge = merges_walk a.weak setup (weakened_runs a h) limits labels end merged (no_race a setup h limits) runs ended merge

  pub log_walks : (labels : List Label) (end : State Told) → IsAnalysed a → IsWithinLimits setup → run_of a.weak setup labels ≡ Some end → HaveEnded a.weak setup end → walk_of a.weak setup (entries_in (written_merge (lists_of end))) (start_state a.weak setup) ≡ Some end
  log_walks labels end h limits runs ended = merges labels end (written_merge (lists_of end)) h limits runs ended (written_is_merge a.weak setup (weakened_runs a h) limits labels end runs)

  pub prefixes : (labels other : List Label) (end other_end : State Told) (t : ℕ) → IsAnalysed a → IsWithinLimits setup → run_of a.weak setup labels ≡ Some end → run_of a.weak setup other ≡ Some other_end → BeginsLike (machine a.weak setup) labels other (start_state a.weak setup) → StopsBefore (machine a.weak setup) labels other (start_state a.weak setup) end → AreComparable (path (machine a.weak setup) t labels (start_state a.weak setup)) (path (machine a.weak setup) t other (start_state a.weak setup))
  prefixes labels other end other_end t h limits runs other_runs begins stops = comparable_paths (machine a.weak setup) (lawful a.weak setup (weakened_runs a h) limits) labels other (start_state a.weak setup) end other_end runs other_runs (no_race a setup h limits) begins stops t
