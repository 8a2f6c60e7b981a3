-- The first access of a log's run that meets a formula.
use Rattle.std.specs.Prelude.{List}
use Rattle.c_tree.specs.Tree.{Outer}
use Rattle.lock_sound.specs.Weakened.{Analysed}
use Rattle.order_log.specs.Log.{LogView}
use Rattle.job_outcomes.specs.declared.outcome.Outcome.{Outcome}
use Rattle.thread_interpreter.specs.declared.access.Formula.{Formula}
use Rattle.walk_hits.specs.Telling.{TellsHit}
use Rattle.job_laws.specs.Sources.{IsFound, WalksAsSource}

-- what is told of the walk of the log on the code with the weak locks that it has for the log's profile. Where the entries have a walk
-- it is a run of the source, with all conflicting accesses ordered by them
pub record TellsLog (log : LogView) (formula : Formula) (os : List Outer) (o : Outcome) : Type 0 where
  pub found : Analysed
  pub is : IsFound os log.profile found
  pub source : WalksAsSource os found.weak log.setup log.entries
  pub tells : TellsHit found.weak log.setup log.entries formula o
