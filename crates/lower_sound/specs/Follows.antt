-- A code makes the events of a run.
use Rattle.std.specs.Prelude.{◌≡◌, ℕ, zero, suc, nat_le, true, not, ℤ, pos, List, [], ◌⊎◌, Option, Some}
use Rattle.sync_objects.specs.Setup.{SetupView}
use Rattle.sync_objects.specs.declared.operation.Op.TheVariants as op
use Rattle.rr_base.specs.declared.trap.Trap.TheVariants as trap
use Rattle.flow_code.specs.declared.act.Act.TheVariants as act
use Rattle.flow_code.specs.declared.code.Code.{Code}
use Rattle.word_semantics.specs.declared.library_call.LibraryCall.{LibraryCall}
use Rattle.word_semantics.specs.Library.{piece_of}
use Rattle.word_semantics.specs.Registers.{words_of}
use Rattle.word_semantics.specs.declared.event.Action.{Action}
use Rattle.word_semantics.specs.declared.event.Action.TheVariants as action
use Rattle.word_semantics.specs.declared.event.Due.TheVariants as due
use Rattle.flow_code.specs.declared.thread.Phase.{Phase}
use Rattle.flow_code.specs.declared.thread.Phase.TheVariants as phase
use Rattle.flow_code.specs.Threads.{Thread, line_of}
use Rattle.flow_code.specs.Next.{act_at, due_of, action_at, stepped}
use Rattle.word_semantics.specs.Entries.{is_entry}
use Rattle.word_semantics.specs.Limits.{most_entries}
use Rattle.core_tree.specs.Core.{Program}
use Rattle.core_tree.specs.Runs.{Run, does, traps, ends}
use Rattle.core_tree.specs.Meaning.{main_of, arena_start}

-- from one state a thread comes to another by quiet steps
pub data Comes (code : Code) (s : SetupView) (t : ℕ) : Thread → Thread → Type 0 where
  here : {m : Thread} → Comes code s t m m
  quietly : {m n : Thread} → due_of code s t m ≡ due.Quiet → Comes code s t (stepped code s t m (pos 0)) n → Comes code s t m n

-- the thread's list of entries is full where the next one would come
pub record IsFull (code : Code) (s : SetupView) (t : ℕ) (m : Thread) (a : Action) : Type 0 where
  pub entry : is_entry a ≡ true
  pub full : nat_le most_entries m.entries ≡ true
  pub traps : due_of code s t m ≡ due.Trap trap.LogFull

-- the thread's next action prints these bytes: a print those of the call at which the thread stands, and any other action none
abbrev pub Prints : Code → Thread → Action → List ℕ → Type 0
Prints code m (action.Operate op.Print obj) out =
    (m.phase ≡ phase.Running) × (call : LibraryCall) × (arguments : List ℕ) × (into : Option ℕ) × (act_at code m.top ≡ Some (act.Library call arguments into)) × (out ≡ piece_of call (words_of m.top.registers arguments))
Prints code m a out = out ≡ []

-- From this state on the thread makes the events of the run whatever is answered, up to an entry that is one too many: after
-- quiet steps the run's event is the next one and prints the run's bytes, a trap has the run's kind and line, and where the run
-- ends the thread has.
abbrev pub Follows : Code → SetupView → ℕ → Run → Thread → Type 0
Follows code s t (does a out more) m =
    (n : Thread) × Comes code s t m n × (IsFull code s t n a ⊎ ((action_at code s t n ≡ a) × Prints code n a out × ((answer : ℤ) → Follows code s t (more answer) (stepped code s t n answer))))
Follows code s t (traps kind line) m = (n : Thread) × Comes code s t m n × (due_of code s t n ≡ due.Trap kind) × (line_of code n.phase n.top ≡ line)
Follows code s t ends m = (n : Thread) × Comes code s t m n × (due_of code s t n ≡ due.Nothing)

-- nothing of the thread has run: thread 0 has begun with `main`, and any other waits for its start
abbrev pub starts_as : Program → ℕ → Phase
starts_as p zero = phase.Begun (main_of p)
starts_as p (suc k) = phase.Fresh

-- the machine's thread has made no event, printed nothing and called nothing
pub record IsAtStart (p : Program) (s : SetupView) (t : ℕ) (m : Thread) : Type 0 where
  pub phase : m.phase ≡ starts_as p t
  pub count : m.count ≡ 0
  pub arena : m.arena ≡ arena_start p s t
  pub printed : m.printed ≡ 0
  pub below : m.below ≡ []
  pub stripes : m.stripes ≡ []
