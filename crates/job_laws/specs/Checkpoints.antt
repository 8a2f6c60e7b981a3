-- Checkpoints of a log's run: the state after its first entries, and the walk of the rest from a state that a file holds.
use Rattle.std.specs.Prelude.{ℕ, List}
use Rattle.c_tree.specs.Tree.{Outer}
use Rattle.lock_sound.specs.Weakened.{Analysed}
use Rattle.order_log.specs.Log.{LogView}
use Rattle.job_outcomes.specs.declared.outcome.Outcome.{Outcome}
use Rattle.walk_checkpoints.specs.Telling.{GoesOn, TakesCheckpoint}
use Rattle.job_laws.specs.Sources.{IsFound, WalksAsSource}

-- the state after so many entries of the log, on the code with the weak locks that it has for the log's profile, put under this name.
-- Where the entries have a walk it is a run of the source, with all conflicting accesses ordered by them
pub record KeepsState (log : LogView) (count : ℕ) (name : List ℕ) (os : List Outer) (o : Outcome) : Type 0 where
  pub found : Analysed
  pub is : IsFound os log.profile found
  pub source : WalksAsSource os found.weak log.setup log.entries
  pub takes : TakesCheckpoint found.weak log.setup log.entries count name o

-- the walk of the rest of the log, on that code, from the state that these bytes hold, or their refusal. Where the entries have a walk
-- it is a run of the source, with all conflicting accesses ordered by them
pub record GoesOnFrom (log : LogView) (held : List ℕ) (os : List Outer) (o : Outcome) : Type 0 where
  pub found : Analysed
  pub is : IsFound os log.profile found
  pub source : WalksAsSource os found.weak log.setup log.entries
  pub goes : GoesOn found.weak log.setup log.entries held o
