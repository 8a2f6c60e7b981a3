-- What one thread does in a list of transitions, and the events of a thread of the source.
use Rattle.std.specs.Prelude.{◌≡◌, ℕ, nat_eq, if◌then◌else◌, ℤ, List, [], ◌∷◌, ◌++◌, ◌⊎◌}
use Rattle.rr_base.specs.declared.trap.Trap.TheVariants as trap
use Rattle.core_tree.specs.Runs.{Run, Event, done, trapped, events}
use Rattle.lowering_simulation.specs.SourceRuns.{Transition, own, stops, closes, ThreadTransition}

-- a stop or a close is no event of the thread's own
abbrev pub event_in : Transition → List Event
event_in (own e) = e ∷ []
event_in stops = []
event_in closes = []

-- the thread's own events, in their order
abbrev pub own_events : ℕ → List ThreadTransition → List Event
own_events t [] = []
own_events t (d ∷ ds) = if nat_eq d.thread t then event_in d.transition ++ own_events t ds else own_events t ds

-- the answers that they got
abbrev pub answers_to : List Event → List ℤ
answers_to [] = []
answers_to (done a out answer ∷ es) = answer ∷ answers_to es
answers_to (trapped why line ∷ es) = answers_to es

-- first events of the run on the answers to them, after which the thread may have trapped since its list in the log was full
pub record IsPartOf (r : Run) (es : List Event) : Type 0 where
  pub first : List Event
  pub rest : List Event
  pub of_run : first ++ rest ≡ events r (answers_to first)
  pub ends : (es ≡ first) ⊎ ((line : ℕ) × (es ≡ first ++ trapped trap.LogFull line ∷ []))
