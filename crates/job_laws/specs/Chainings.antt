-- What orders two accesses of a log's run.
use Rattle.std.specs.Prelude.{List}
use Rattle.command_line.specs.declared.event.Event.{Event}
use Rattle.c_tree.specs.Tree.{Outer}
use Rattle.chain_report.specs.declared.point.Point.{Point}
use Rattle.lock_sound.specs.Weakened.{Analysed}
use Rattle.order_log.specs.Log.{LogView}
use Rattle.job_outcomes.specs.declared.outcome.Outcome.{Outcome}
use Rattle.walk_chains.specs.Telling.{TellsChain}
use Rattle.job_laws.specs.Sources.{IsFound, WalksAsSource}

-- the point of a log at which an event is made
abbrev pub point_of : Event → Point
point_of event = record { thread = event.thread; count = event.count }

-- what is told of two points of the log on the code with the weak locks that it has for the log's profile. Where the entries have a
-- walk it is a run of the source, with all conflicting accesses ordered by them
pub record OrdersLog (log : LogView) (one other : Point) (os : List Outer) (o : Outcome) : Type 0 where
  pub found : Analysed
  pub is : IsFound os log.profile found
  pub source : WalksAsSource os found.weak log.setup log.entries
  pub tells : TellsChain found.weak log.setup log.entries one other o
