-- The profile of a log: which functions are at work at once in the walk of the log's entries on the source's weakened code.
use Rattle.std.specs.Prelude.{ℕ, List}
use Rattle.c_tree.specs.Tree.{Outer}
use Rattle.lock_sound.specs.Weakened.{Analysed}
use Rattle.order_log.specs.Log.{LogView}
use Rattle.job_outcomes.specs.declared.outcome.Outcome.{Outcome}
use Rattle.walk_profiles.specs.Profiling.{ShowsProfile}
use Rattle.job_laws.specs.Sources.{IsFound, WalksAsSource}

-- what the walk of the log shows on the code with the weak locks that it has for the log's profile, put under this name. Where
-- the entries have a walk it is a run of the source, with all conflicting accesses ordered by them
pub record ShowsLog (log : LogView) (name : List ℕ) (os : List Outer) (o : Outcome) : Type 0 where
  pub found : Analysed
  pub is : IsFound os log.profile found
  pub source : WalksAsSource os found.weak log.setup log.entries
  pub shows : ShowsProfile found.weak log.setup log.entries name o
