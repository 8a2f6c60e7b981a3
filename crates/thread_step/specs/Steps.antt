-- A thread's run as it is shown, and what its steps leave of its lists.
use Rattle.std.specs.Prelude.{◌≡◌, ⊤, ℕ, ℤ, Bool, true, false, List, []}
use Rattle.sync_objects.specs.Setup.{SetupView}
use Rattle.sync_objects.specs.Names.{name_of}
use Rattle.sync_objects.specs.declared.entry.Noted.{Noted}
use Rattle.sync_objects.specs.declared.object.ObjId.{ObjId}
use Rattle.sync_objects.specs.declared.operation.Op.{Op}
use Rattle.sync_objects.specs.declared.operation.Op.TheVariants as op
use Rattle.flow_code.specs.declared.code.Code.{Code}
use Rattle.flow_code.specs.Threads.{Thread}
use Rattle.flow_code.specs.Next.{stepped, action_at, act_at}
use Rattle.word_semantics.specs.declared.event.Action.{Action}
use Rattle.word_semantics.specs.declared.event.Action.TheVariants as action
use Rattle.word_semantics.specs.Values.{word}
use Rattle.thread_interpreter.specs.declared.access.Access.{Access}
use Rattle.thread_interpreter.specs.declared.access.Formula.{Formula}
use Rattle.core_run.specs.Shown.{with_read}
use Rattle.thread_interpreter.specs.Flows.{Running, is_ready}
use Rattle.core_run.specs.Machine.{Told, access_of, entry_of, marked, operated, effect_of}
use Rattle.run_theory.specs.Labels.{Go}
use Rattle.run_theory.specs.Steps.{Change, Becomes, Operates}
use Rattle.sync_objects.specs.Words.{number_of}
use Rattle.thread_interpreter.specs.Pieces.{piece_next, piece_at}

-- the thread, its entries and its printed pieces, in order; the formula of the accesses that are kept, and these; whether there is
-- room for one more of each; and the step for which there is room, with the bytes that are ready for a print
pub record Stepping : Type 0 where
  pub flow : Running
  pub entries : List Noted
  pub pieces : List (List ℕ)
  pub formula : Formula
  pub reads : List Access
  pub has_entry : Bool
  pub has_piece : Bool
  pub has_read : Bool
  pub next : Action
  pub ready : List ℕ

-- the thread with its lists, without its accesses, of which only the first are kept that meet the formula
abbrev pub told_of : Stepping → Told
told_of r = record { thread = r.flow.kept.thread; entries = r.entries; accesses = []; pieces = r.pieces }

-- what it does next
abbrev pub next_of : Stepping → Action
next_of r = action_at r.flow.code r.flow.setup r.flow.number r.flow.kept.thread

-- the bytes for a print are those that it prints
abbrev pub IsPiece : Code → Thread → List ℕ → Action → Type 0
IsPiece code th ready (action.Operate op.Print obj) = ready ≡ piece_at (act_at code th.top) th.top.registers
IsPiece code th ready _ = ⊤

-- there is room for the next step
pub record IsReady (r : Stepping) : Type 0 where
  pub frame : is_ready r.flow.code r.flow.kept ≡ true
  pub entry : r.has_entry ≡ true
  pub piece : r.has_piece ≡ true
  pub read : r.has_read ≡ true
  pub next : r.next ≡ next_of r
  pub bytes : IsPiece r.flow.code r.flow.kept.thread r.ready (next_of r)

-- what the step of thread t leaves, on this answer; an operation is the one with this number on its object
abbrev pub after : Code → SetupView → (t : ℕ) → Told → Action → (answer : ℤ) → (number : ℕ) → Told
after code s t told (action.Operate o obj) answer n =
    operated told (stepped code s t told.thread answer) (record { entry = entry_of t told.thread (name_of o) obj; number = n }) (piece_next code told.thread o)
after code s t told _ answer n = marked told (stepped code s t told.thread answer)

-- the accesses that are kept after the step of thread t, on this answer: one more where it is an access that meets the formula
abbrev pub reads_after : Formula → (t : ℕ) → Thread → Action → (answer : ℤ) → List Access → List Access
reads_after f t th (action.Load c) answer reads = with_read f reads (access_of t th c (word answer) false)
reads_after f t th (action.Store c w) answer reads = with_read f reads (access_of t th c w true)
reads_after f t th _ answer reads = reads

-- the thread runs the same code as before, under the same setup, and keeps accesses by the same formula
pub record IsSameRun (old new : Stepping) : Type 0 where
  pub code : new.flow.code ≡ old.flow.code
  pub setup : new.flow.setup ≡ old.flow.setup
  pub number : new.flow.number ≡ old.flow.number
  pub formula : new.formula ≡ old.formula

-- the machine's step of a thread whose quiet steps are made and whose next is this operation leaves the same, where the object's
-- word is `old` and the operation makes it `new`
pub record IsMachinesStep (code : Code) (s : SetupView) (t : ℕ) (told : Told) (o : Op) (obj : ObjId) (old new : ℕ) (answer : ℤ) : Type 0 where
  pub change : ℕ → Change Told
  pub effect : effect_of code s (Go t) told ≡ Operates (entry_of t told.thread (name_of o) obj) change
  pub leaves : change old ≡ Becomes new answer (after code s t told (action.Operate o obj) answer (number_of old))
