-- A run of a source by a log: the walk of the log's entries on the source's weakened code.
use Rattle.std.specs.Prelude.{◌≡◌, ℕ, List, [], Option}
use Rattle.c_tree.specs.Tree.{Outer}
use Rattle.core_run.specs.declared.outcome.Walk.{Walk}
use Rattle.core_run.specs.Walks.{WalkIs}
use Rattle.lock_sound.specs.Weakened.{Analysed}
use Rattle.order_log.specs.Log.{LogView}
use Rattle.job_outcomes.specs.declared.outcome.Outcome.{Outcome}
use Rattle.replayer.specs.Replays.{entries_taken}
use Rattle.job_runs.specs.Works.{HasRun, Work}
use Rattle.job_laws.specs.Sources.{IsFound, WalksAsSource}
use Rattle.walk_answers.specs.Walking.{formula_of, outcome_of}

-- the walk of the log on the code with the weak locks that it has for the log's profile. Where the entries have a walk it is a
-- run of the source, with all conflicting accesses ordered by them. The crew has run a job for each slot, with a turn for each entry that the walk takes or more
pub record Replays (old new : Work) (log : LogView) (reads : Option (List ℕ)) (os : List Outer) (o : Outcome) : Type 0 where
  pub found : Analysed
  pub is : IsFound os log.profile found
  pub walk : Walk
  pub walks : WalkIs found.weak log.setup log.entries (formula_of reads) walk
  pub source : WalksAsSource os found.weak log.setup log.entries
  pub crew : HasRun log.setup.slots (entries_taken log.entries walk) old new
  pub told : o ≡ outcome_of [] reads walk
