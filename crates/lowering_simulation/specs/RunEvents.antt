-- What the threads of a machine do in a run, read off step by step.
use Rattle.std.specs.Prelude.{ℕ, ℤ, pos, Bool, true, false, if◌then◌else◌, List, [], ◌∷◌, ◌++◌, Option, Some, None, slice_get, slice_index}
use Rattle.sync_objects.specs.Advance.{Advance, NotAllowed, Advances, advanced}
use Rattle.sync_objects.specs.Setup.{SetupView}
use Rattle.sync_objects.specs.declared.object.ObjId.TheVariants as object
use Rattle.sync_objects.specs.declared.operation.Op.TheVariants as op
use Rattle.flow_code.specs.declared.code.Code.{Code}
use Rattle.word_semantics.specs.declared.event.Due.{Due}
use Rattle.word_semantics.specs.declared.event.Due.TheVariants as due
use Rattle.word_semantics.specs.declared.event.Action.{Action}
use Rattle.word_semantics.specs.declared.event.Action.TheVariants as action
use Rattle.word_semantics.specs.Values.{number}
use Rattle.flow_code.specs.Threads.{Thread, line_of}
use Rattle.flow_code.specs.Next.{due_of, action_of}
use Rattle.flow_code.specs.Settle.{settled}
use Rattle.core_tree.specs.Runs.{Event, done, trapped}
use Rattle.core_run.specs.Words.{cells_of, place_of}
use Rattle.core_run.specs.Machine.{Told, machine, start_state}
use Rattle.thread_interpreter.specs.Pieces.{piece_next}
use Rattle.core_run.specs.Walks.{joined}
use Rattle.run_theory.specs.Labels.{Label, Go, Revoke, Stop, Close, label_thread}
use Rattle.run_theory.specs.Steps.{State, stepped}
use Rattle.lowering_simulation.specs.SourceRuns.{Transition, own, stops, closes, ThreadTransition}

-- an operation that isn't allowed counts as answered by 0
abbrev pub answer_in : Advance → ℤ
answer_in NotAllowed = pos 0
answer_in (Advances new answer) = answer

-- the bytes that an action of the thread prints
abbrev pub printed_at : Code → Thread → Action → List ℕ
printed_at code th (action.Operate o obj) = joined (piece_next code th o)
printed_at code th _ = []

module _ (code : Code) (s : SetupView) where
  -- what these words answer to an action of thread t
  abbrev pub answer_of : List ℕ → ℕ → Action → ℤ
  answer_of ws t (action.Load cell) = number (slice_index ws cell)
  answer_of ws t (action.Operate o obj) = answer_in (advanced o t (slice_index ws (place_of (cells_of code s) obj)))
  answer_of ws t _ = pos 0

  -- the event of a thread in which this comes next
  abbrev pub event_of : List ℕ → ℕ → Thread → Due → Event
  event_of ws t th (due.Trap why) = trapped why (line_of code th.phase th.top)
  event_of ws t th d = done (action_of d) (printed_at code th (action_of d)) (answer_of ws t (action_of d))

  -- what a label does; a thread's own event comes after its quiet steps
  abbrev pub transition_of : List ℕ → Label → Thread → Transition
  transition_of ws (Go t) th = own (event_of ws t (settled code s t th) (due_of code s t (settled code s t th)))
  transition_of ws (Revoke t lock stripe) th = own (done (action.Operate op.Revoke (object.Weak lock stripe)) [] (answer_of ws t (action.Operate op.Revoke (object.Weak lock stripe))))
  transition_of ws (Stop t) th = stops
  transition_of ws (Close t) th = closes

  abbrev pub transition_at : List ℕ → Label → Option Told → List ThreadTransition
  transition_at ws l None = []
  transition_at ws l (Some told) = record { thread = label_thread l; transition = transition_of ws l told.thread } ∷ []

  abbrev pub transitions_on : (State Told → List ThreadTransition) → Option (State Told) → List ThreadTransition
  transitions_on rest None = []
  transitions_on rest (Some st) = rest st

  abbrev pub transitions_from : List Label → State Told → List ThreadTransition
  transitions_from [] st = []
  transitions_from (l ∷ ls) st = transition_at st.words l (slice_get st.threads (label_thread l)) ++ transitions_on (transitions_from ls) (stepped (machine code s) st l)

  -- the events of a run from the start, with their threads
  abbrev pub events_of_run : List Label → List ThreadTransition
  events_of_run labels = transitions_from labels (start_state code s)

-- operations on stripes of weak locks, which no source makes
abbrev pub is_stripe : Action → Bool
is_stripe (action.Operate o (object.Weak lock stripe)) = true
is_stripe _ = false

-- an event that weak locks alone cause
abbrev pub is_of_stripe : Transition → Bool
is_of_stripe (own (done a out answer)) = is_stripe a
is_of_stripe _ = false

-- the events that the source itself causes
abbrev pub without_stripes : List ThreadTransition → List ThreadTransition
without_stripes [] = []
without_stripes (d ∷ ds) = if is_of_stripe d.transition then without_stripes ds else d ∷ without_stripes ds
