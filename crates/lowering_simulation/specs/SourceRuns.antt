-- Runs of a source: what its threads do together, one thing after another, whatever machine runs them. Each thread makes the
-- events of its own run. A cell keeps the value that was stored in it last (C99 6.2.4), and starts as its initialiser says or
-- with 0 (C99 6.7.8). An operation of the library is allowed, answers and changes its object as POSIX threads have it.
use Rattle.std.specs.Prelude.{◌≡◌, ℕ, zero, suc, ◌+◌, ◌-◌, ◌*◌, ◌<◌, nat_lt, nat_eq, Bool, true, false, if◌then◌else◌, ℤ, pos, List, [], ◌∷◌, length, ◌⊎◌, Option, Some, None, slice_get}
use Rattle.std.specs.List.{flat_map}
use Rattle.sync_objects.specs.Advance.{Advance, NotAllowed, Advances, advanced}
use Rattle.sync_objects.specs.Setup.{SetupView}
use Rattle.sync_objects.specs.Start.{start_word}
use Rattle.sync_objects.specs.declared.object.ObjId.{ObjId}
use Rattle.sync_objects.specs.declared.object.ObjId.TheVariants as object
use Rattle.sync_objects.specs.declared.operation.Op.{Op}
use Rattle.sync_objects.specs.declared.operation.Op.TheVariants as op
use Rattle.rr_base.specs.declared.layout.CellKind.{CellKind}
use Rattle.rr_base.specs.declared.layout.CellKind.TheVariants as kind
use Rattle.rr_base.specs.declared.trap.Trap.TheVariants as trap
use Rattle.word_semantics.specs.declared.event.Action.{Action}
use Rattle.word_semantics.specs.declared.event.Action.TheVariants as action
use Rattle.word_semantics.specs.Values.{number}
use Rattle.word_semantics.specs.Operators.{based}
use Rattle.core_tree.specs.Core.{Program}
use Rattle.core_tree.specs.Runs.{Run, does, traps, Event, done, trapped, printed_in, with_value}
use Rattle.core_tree.specs.Meaning.{run_of}
use Rattle.word_semantics.specs.Entries.{is_entry}
use Rattle.run_theory.specs.Same.{same_object}

-- what a thread does, or what is done to it
pub data Transition : Type 0 where
  -- an event of its own: an action with what it printed and the answer to it, or a trap with its line
  own : Event → Transition
  -- it is stopped, since the program is over
  stops : Transition
  -- it is closed before it begins
  closes : Transition

-- one step of a whole run, with the number of its thread
pub record ThreadTransition : Type 0 where
  pub thread : ℕ
  pub transition : Transition

-- the bytes that a transition prints
abbrev pub printed_by : Transition → List ℕ
printed_by (own e) = printed_in e
printed_by _ = []

-- the bytes that a run prints, in the order of its transitions
abbrev pub bytes_of : List ThreadTransition → List ℕ
bytes_of ds = flat_map (λ d. printed_by d.transition) ds

-- where a thread is: it waits for its begin with all of its run before it, it goes on with the rest of its run, or it has
-- ended
pub data Progress : Type 0 where
  waits : Run → Progress
  goes : Run → Progress
  over : Progress

-- the word of each cell and of each object, and where each thread is
pub record World : Type 0 where
  pub cells : ℕ → ℕ
  pub objects : ObjId → ℕ
  pub threads : ℕ → Progress

-- ---- the world after a transition

-- the words of all objects, with a new one at o
abbrev pub with_object : (ObjId → ℕ) → ObjId → ℕ → ObjId → ℕ
with_object words o w p = if same_object p o then w else words p

-- where all threads are, with a new place for thread t
abbrev pub with_standing : (ℕ → Progress) → ℕ → Progress → ℕ → Progress
with_standing threads t x u = if nat_eq u t then x else threads u

-- where the operation isn't allowed, the object keeps its word
abbrev pub word_after : ℕ → Advance → ℕ
word_after w NotAllowed = w
word_after w (Advances new answer) = new

-- an operation changes its object's word as the table of operations says
abbrev pub operated : World → ℕ → Op → ObjId → World
operated w t o obj = record w { objects = with_object w.objects obj (word_after (w.objects obj) (advanced o t (w.objects obj))) }

-- a cell has the word that was stored in it last
abbrev pub acted : World → ℕ → Action → World
acted w t (action.Store cell v) = record w { cells = with_value w.cells cell v }
acted w t (action.Operate o obj) = operated w t o obj
acted w t _ = w

-- traps halt the program, and being stopped or closed shows in objects too
abbrev pub words_after : World → ℕ → Transition → World
words_after w t (own (done a out answer)) = acted w t a
words_after w t (own (trapped why line)) = operated w t op.TrapHere object.Halt
words_after w t stops = operated w t op.Stop object.Halt
words_after w t closes = operated w t op.Close (object.Slot t)

-- a thread has ended when it has left the live threads or halted the program
abbrev pub is_last : Action → Bool
is_last (action.Operate op.Leave obj) = true
is_last (action.Operate op.HaltAll obj) = true
is_last _ = false

-- a trap ends the thread, and so does its last event
abbrev pub rest_after : Run → Event → Progress
rest_after (does a out more) (done b out' answer) = if is_last b then over else goes (more answer)
rest_after _ _ = over

-- a thread that is stopped or closed is over, whatever it had left
abbrev pub standing_after : Progress → Transition → Progress
standing_after (waits r) (own e) = rest_after r e
standing_after (goes r) (own e) = rest_after r e
standing_after _ _ = over

-- only this thread goes on; the cells and objects are shared
abbrev pub after : World → ThreadTransition → World
after w d = record (words_after w d.thread d.transition) { threads = with_standing w.threads d.thread (standing_after (w.threads d.thread) d.transition) }

module _ (p : Program) (s : SetupView) where
  -- ---- which cells and objects there are: two hand-off cells for each thread, the global cells, and an arena for each thread

  abbrev pub cell_count : ℕ
  cell_count = 2 * s.slots + length p.globals + s.slots * s.cells

  -- a source has no stripes of weak locks
  abbrev pub IsThere : ObjId → Type 0
  IsThere (object.Mutex cell) = cell < cell_count
  IsThere (object.Cond cell) = cell < cell_count
  IsThere (object.Barrier cell) = cell < cell_count
  IsThere (object.Rw cell) = cell < cell_count
  IsThere (object.Slot k) = k < s.slots
  IsThere (object.Weak lock stripe) = ⊥
  IsThere _ = Unit {0}

  -- ---- the start

  -- the start word of a global cell; an address counts its base from the first cell of all
  abbrev pub global_word : Option CellKind → Option ℕ → ℕ
  global_word kind None = 0
  global_word (Some kind.Pointer) (Some w) = if nat_eq w 0 then 0 else based s.slots w
  global_word kind (Some w) = w

  -- hand-off cells and arenas start with 0
  abbrev pub start_cell : ℕ → ℕ
  start_cell c = if nat_lt c (2 * s.slots) then 0 else global_word (slice_get p.global_kinds (c - 2 * s.slots)) (slice_get p.globals (c - 2 * s.slots))

  -- thread 0 has begun
  abbrev pub start_standing : ℕ → Progress
  start_standing zero = goes (run_of p s 0)
  start_standing (suc k) = waits (run_of p s (suc k))

  abbrev pub start_world : World
  start_world = record { cells = start_cell; objects = start_word; threads = start_standing }

  -- ---- what may be done

  -- the object is there, and the table of operations allows the operation at its word, with this answer
  abbrev pub Allows : World → ℕ → Op → ObjId → ℤ → Type 0
  Allows w t o obj answer = IsThere obj × (new : ℕ) × (advanced o t (w.objects obj) ≡ Advances new answer)

  abbrev pub IsAllowed : World → ℕ → Op → ObjId → Type 0
  IsAllowed w t o obj = (answer : ℤ) × Allows w t o obj answer

  -- the answer to an action: that to a load is the cell's word as a number
  abbrev pub Answers : World → ℕ → Action → ℤ → Type 0
  Answers w t (action.Load cell) answer = (cell < cell_count) × (answer ≡ number (w.cells cell))
  Answers w t (action.Store cell v) answer = (cell < cell_count) × (answer ≡ pos 0)
  Answers w t action.Mark answer = answer ≡ pos 0
  Answers w t (action.Operate o obj) answer = Allows w t o obj answer
  Answers w t _ answer = ⊥

  -- the event is the next one of the run, and has printed what that prints
  abbrev pub ComesNext : World → ℕ → Run → Event → Type 0
  ComesNext w t (does a out more) (done b out' answer) = (b ≡ a) × (out' ≡ out) × Answers w t a answer
  ComesNext w t (traps why line) (trapped why' line') = (why' ≡ why) × (line' ≡ line) × IsAllowed w t op.TrapHere object.Halt
  ComesNext w t _ _ = ⊥

  -- where a thread's list in the log may be full
  module _ (MayFill : Run → Type 0) where
    -- the thread's list is full, and it traps in place of its next event
    abbrev pub IsFull : World → ℕ → Run → Event → Type 0
    IsFull w t r (trapped why line) = (why ≡ trap.LogFull) × MayFill r × IsAllowed w t op.TrapHere object.Halt
    IsFull w t r (done a out answer) = ⊥

    -- a thread is stopped only between its begin and its end, and closed only before its begin
    abbrev pub MayDo : World → ℕ → Progress → Transition → Type 0
    MayDo w t (waits r) (own e) = ComesNext w t r e ⊎ IsFull w t r e
    MayDo w t (goes r) (own e) = ComesNext w t r e ⊎ IsFull w t r e
    MayDo w t (goes r) stops = IsAllowed w t op.Stop object.Halt
    MayDo w t (waits r) closes = IsAllowed w t op.Close (object.Slot t)
    MayDo w t _ _ = ⊥

    -- each transition in turn may be done, by a thread that there is
    abbrev pub IsRunFrom : World → List ThreadTransition → Type 0
    IsRunFrom w [] = Unit {0}
    IsRunFrom w (d ∷ ds) = (d.thread < s.slots) × MayDo w d.thread (w.threads d.thread) d.transition × IsRunFrom (after w d) ds

    -- a run of the source
    abbrev pub IsSourceRun : List ThreadTransition → Type 0
    IsSourceRun ds = IsRunFrom start_world ds

-- a thread that takes no stripes lists its own operations alone, so its list is full before one of these
abbrev pub IsBeforeEntry : Run → Type 0
IsBeforeEntry (does a out more) = is_entry a ≡ true
IsBeforeEntry _ = ⊥
