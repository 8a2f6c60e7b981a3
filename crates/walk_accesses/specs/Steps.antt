-- For private clauses: one step of a thread that goes alone.
use Rattle.std.specs.Prelude.{◌≡◌, ℕ, ◌-◌, ◌<◌, ◌≤◌, if◌then◌else◌, true, false, ℤ, pos, List, Option, Some, None, slice_get, slice_set}
use Rattle.std.specs.Option.{option_map}
use Rattle.sync_objects.specs.Setup.{SetupView}
use Rattle.word_semantics.specs.declared.event.Action.{Action}
use Rattle.word_semantics.specs.declared.event.Action.TheVariants as action
use Rattle.word_semantics.specs.Values.{number}
use Rattle.flow_code.specs.declared.code.Code.{Code}
use Rattle.flow_code.specs.Threads.{Thread}
use Rattle.flow_code.specs.Next.{stepped, action_at}
use Rattle.flow_code.specs.Settle.{settled}
use Rattle.thread_interpreter.specs.declared.access.Access.{Access}
use Rattle.thread_interpreter.specs.Flows.{Running}
use Rattle.core_run.specs.Machine.{Told, machine, access_of}
use Rattle.run_theory.specs.Steps.{State}
use Rattle.run_theory.specs.Walk.{alone}

-- the access that an action makes at these words, where it comes next in this thread
abbrev pub access_by : ℕ → Thread → List ℕ → Action → Option Access
access_by t th words (action.Load cell) = option_map (λ word. access_of t th cell word false) (slice_get words cell)
access_by t th words (action.Store cell word) = Some (access_of t th cell word true)
access_by t th words action.Quiet = None
access_by t th words action.Mark = None
access_by t th words (action.Operate o obj) = None
access_by t th words action.Ended = None

-- a load answers its word
abbrev pub answer_of : Option Access → ℤ
answer_of None = pos 0
answer_of (Some a) = if a.store then pos 0 else number a.value

-- a store puts its word
abbrev pub words_by : List ℕ → Option Access → List ℕ
words_by words None = words
words_by words (Some a) = if a.store then slice_set words a.cell a.value else words

-- the access that comes next in a thread without quiet steps
abbrev pub next_access : Code → SetupView → ℕ → Thread → List ℕ → Option Access
next_access code s t th words = access_by t th words (action_at code s t th)

-- the thread after it
abbrev pub thread_by : Code → SetupView → ℕ → Thread → List ℕ → Thread
thread_by code s t th words = stepped code s t th (answer_of (next_access code s t th words))

-- what a step of a thread is: all its quiet steps, and then the load, the store or the mark that comes next
pub record Steps (code : Code) (s : SetupView) (t : ℕ) (th th1 : Thread) (words words1 : List ℕ) (made : Option Access) : Type 0 where
  pub made_is : made ≡ next_access code s t (settled code s t th) words
  pub thread_is : th1 ≡ thread_by code s t (settled code s t th) words
  pub words_are : words1 ≡ words_by words made

-- the thread is this one in the state, and these are its words
pub record IsIn (t : ℕ) (st : State Told) (th : Thread) (words : List ℕ) : Type 0 where
  pub told : Told
  pub stands : slice_get st.threads t ≡ Some told
  pub thread_is : told.thread ≡ th
  pub words_are : st.words ≡ words

-- so many steps alone lead to a state in which the thread and the words are these
pub record GoesTo (code : Code) (s : SetupView) (n t : ℕ) (st : State Told) (th : Thread) (words : List ℕ) : Type 0 where
  pub state : State Told
  pub goes : alone (machine code s) n t st ≡ Some state
  pub is_in : IsIn t state th words

-- the access that the thread makes next after so many steps alone
pub record LooksAfter (code : Code) (s : SetupView) (n t : ℕ) (st : State Told) (made : Option Access) : Type 0 where
  pub thread : Thread
  pub words : List ℕ
  pub there : GoesTo code s n t st thread words
  pub made_is : made ≡ next_access code s t (settled code s t thread) words

-- .. from each state in which the thread and the words are the first ones, if the thread can go so many steps alone there
abbrev pub Goes : Code → SetupView → ℕ → ℕ → Thread → List ℕ → Thread → List ℕ → Type 0
Goes code s n t th words th1 words1 = (st st1 : State Told) → IsIn t st th words → alone (machine code s) n t st ≡ Some st1 → GoesTo code s n t st th1 words1

abbrev pub Looks : Code → SetupView → ℕ → ℕ → Thread → List ℕ → Option Access → Type 0
Looks code s n t th words made = (st st1 : State Told) → IsIn t st th words → alone (machine code s) n t st ≡ Some st1 → LooksAfter code s n t st made

-- the access that a running thread makes at the count, where it goes on alone beyond it; none where it is past it
pub record FindsAt (count : ℕ) (r : Running) (words : List ℕ) (made : Option Access) : Type 0 where
  pub past : count < r.kept.thread.count → made ≡ None
  pub ahead : r.kept.thread.count ≤ count → Looks r.code r.setup (count - r.kept.thread.count) r.number r.kept.thread words made
