-- The accesses of a walk that points of a log name, and that a chain orders them.
use Rattle.std.specs.Prelude.{◌≡◌, ◌≢◌, ℕ, List, Some}
use Rattle.core_run.specs.Machine.{Told, machine, start_state}
use Rattle.core_run.specs.Walks.{walk_of}
use Rattle.flow_code.specs.declared.code.Code.{Code}
use Rattle.run_theory.specs.Laws.{NoAccess}
use Rattle.run_theory.specs.Ordered.{Event, event_access, event_at, event_thread, Ordered, state_at}
use Rattle.run_theory.specs.Steps.{State, count_of}
use Rattle.lowering_simulation.specs.WalkEvents.{labels_of_walk}
use Rattle.sync_objects.specs.Setup.{SetupView}
use Rattle.sync_objects.specs.declared.entry.Entry.{Entry}
use Rattle.chain_report.specs.declared.point.Point.{Point}

module _ (code : Code) (s : SetupView) (es : List Entry) where
  -- the event at place i of the walk is an access by the point's thread, which has made as many events before as the point says
  pub record IsAccessOf (p : Point) (i : ℕ) : Type 0 where
    pub event : Event
    pub happens : event_at (machine code s) (labels_of_walk code s es) (start_state code s) i ≡ Some event
    pub own : event_thread event ≡ p.thread
    pub accesses : event_access event ≢ NoAccess
    pub before : State Told
    pub stands : state_at (machine code s) (labels_of_walk code s es) (start_state code s) i ≡ Some before
    pub counted : count_of (machine code s) before p.thread ≡ p.count

  -- in the walk of the entries, where they have one, the accesses that the points name are ordered
  abbrev pub AreInOrder : Point → Point → Type 0
  AreInOrder first second =
      (end : State Told) (i j : ℕ) →
      walk_of code s es (start_state code s) ≡ Some end →
      IsAccessOf first i →
      IsAccessOf second j →
      Ordered (event_at (machine code s) (labels_of_walk code s es) (start_state code s)) i j
