-- Which functions are seen at work at once along a walk.
use Rattle.std.specs.Prelude.{◌≡◌, ◌≢◌, ◌↔◌, ℕ, ◌+◌, ◌<◌, List, [], length, map, take, Option, Some, None, slice_get, Contains}
use Rattle.sync_objects.specs.Setup.{SetupView}
use Rattle.sync_objects.specs.declared.entry.Entry.{Entry}
use Rattle.flow_code.specs.declared.code.Code.{Code}
use Rattle.flow_code.specs.declared.code.Function.{Function}
use Rattle.profiles.specs.Profile.{Text, Pair, ordered, AreAscending}
use Rattle.core_run.specs.Machine.{Told, start_state}
use Rattle.thread_interpreter.specs.Stacks.{stack_of}
use Rattle.core_run.specs.Walks.{walk_of}
use Rattle.run_theory.specs.Steps.{State}

-- the stacks of all threads; a thread that hasn't entered its first function has an empty one, and so has one that has ended
abbrev pub stacks_in : State Told → List (List ℕ)
stacks_in st = map (λ (told : Told). stack_of told.thread) st.threads

-- two functions are on the stacks of two threads
pub record AreAtOnce (stacks : List (List ℕ)) (f g : ℕ) : Type 0 where
  pub first : ℕ
  pub second : ℕ
  pub differ : first ≢ second
  pub first_stack : List ℕ
  pub second_stack : List ℕ
  pub first_is : slice_get stacks first ≡ Some first_stack
  pub second_is : slice_get stacks second ≡ Some second_stack
  pub on_first : Contains first_stack f
  pub on_second : Contains second_stack g

-- right after some entry of the walk the two functions are on the stacks of two threads
pub record WereAtOnce (code : Code) (s : SetupView) (es : List Entry) (f g : ℕ) : Type 0 where
  pub at : ℕ
  pub within : at < length es
  pub state : State Told
  pub walked : walk_of code s (take (at + 1) es) (start_state code s) ≡ Some state
  pub at_once : AreAtOnce (stacks_in state) f g

-- a function that isn't there has the empty name
abbrev pub name_in : Option Function → Text
name_in None = []
name_in (Some f) = f.name

-- the name in the source, by which a profile names the function
abbrev pub name_of : Code → ℕ → Text
name_of code f = name_in (slice_get code.functions f)

-- the pair has the names of two functions that were at work at once, the lesser one first
pub record IsSeen (code : Code) (s : SetupView) (es : List Entry) (p : Pair) : Type 0 where
  pub first : ℕ
  pub second : ℕ
  pub at_once : WereAtOnce code s es first second
  pub named : p ≡ ordered (name_of code first) (name_of code second)

-- the entries have a walk, and these are exactly the pairs that are seen along it, in order and each once
pub record AreSeen (code : Code) (s : SetupView) (es : List Entry) (ps : List Pair) : Type 0 where
  pub end : State Told
  pub walked : walk_of code s es (start_state code s) ≡ Some end
  pub ascending : AreAscending ps
  pub each : (p : Pair) → Contains ps p ↔ IsSeen code s es p

-- the pairs, or none where the entries have no walk
abbrev pub SeenIs : Code → SetupView → List Entry → Option (List Pair) → Type 0
SeenIs code s es None = walk_of code s es (start_state code s) ≡ None
SeenIs code s es (Some ps) = AreSeen code s es ps
