-- What a core tree does, by recursion on it (C99 5.1.2.3, 6.5, 6.8; POSIX.1-2017 threads).
use Rattle.std.specs.Prelude.{ℕ, zero, suc, ◌+◌, ◌*◌, ◌-◌, ◌^◌, nat_le, nat_eq, Bool, true, false, not, if◌then◌else◌, ℤ, pos, ◌-ℤ◌, ◌*ℤ◌, List, [], ◌∷◌, length, codes, position, unwrap_or, Option, Some, None, map, ◌++◌, find, slice_get, slice_index_or, Result, Ok, Err}
use Rattle.std.specs.Str.{bytes_eq}
use Rattle.sync_objects.specs.Setup.{SetupView}
use Rattle.sync_objects.specs.declared.object.ObjId.TheVariants as object_id
use Rattle.sync_objects.specs.declared.operation.Op.TheVariants as op
use Rattle.rr_base.specs.declared.trap.Trap.{Trap}
use Rattle.rr_base.specs.declared.trap.Trap.TheVariants as trap
use Rattle.rr_base.specs.declared.layout.CellKind.{CellKind}
use Rattle.rr_base.specs.declared.layout.Site.{Site}
use Rattle.rr_base.specs.declared.position.Position.{Position}
use Rattle.word_semantics.specs.declared.library_call.LibraryCall.{LibraryCall}
use Rattle.word_semantics.specs.declared.event.Due.{Due}
use Rattle.word_semantics.specs.declared.event.Due.TheVariants as due
use Rattle.word_semantics.specs.declared.event.Action.TheVariants as action
use Rattle.word_semantics.specs.declared.event.Onward.{Onward}
use Rattle.word_semantics.specs.declared.event.Onward.TheVariants as onward
use Rattle.word_semantics.specs.Values.{number, word, fitting, truth, binary_of}
use Rattle.word_semantics.specs.Pointers.{resolved, moved, moved_by, directed, compared, elements_between, pointer_to, number_from, pointer_at}
use Rattle.word_semantics.specs.Operators.{based, either_binary_of}
use Rattle.word_semantics.specs.Library.{Caller, count_in, library_due, library_onward, piece_of}
use Rattle.word_semantics.specs.Cells.{argument_cell, result_cell, size_of}
use Rattle.word_semantics.specs.Cells.{access_kind, is_size, cells_in}
use Rattle.word_semantics.specs.Limits.{most_frames}
use Rattle.core_tree.specs.declared.value.UnaryOp.{UnaryOp}
use Rattle.core_tree.specs.declared.value.UnaryOp.TheVariants as unary_op
use Rattle.core_tree.specs.declared.value.Change.{Change}
use Rattle.core_tree.specs.declared.value.Change.TheVariants as change
use Rattle.core_tree.specs.Core as core
use Rattle.core_tree.specs.Core.{Exp, null, register, object, global, load, unary, binary, move, advance, member, between, to_pointer, to_number, copy, both, either, conditional, comma, set_register, store, change_register, change_cell, call, library, allocate, Exps, no_exp, and_exp, Statement, block, compute, branch, branch_else, while_loop, do_loop, for_loop, break_at, continue_at, gives, Statements, no_statement, and_statement, Arrival, arrives, Function, Pointer, Program}
use Rattle.core_tree.specs.Runs.{Run, does, traps, ends, State, M, ◌>>=◌, ◌>>◌, pure, trap_at, result_at, printing, event, read_register, write_register, read_object, choose}

-- ---- kinds

-- by how it changes: only pointers move, by elements
abbrev pub is_pointer_change : Change → Bool
is_pointer_change (change.Compute o) = false
is_pointer_change (change.Move element back) = true

-- whether an expression gives a pointer
abbrev pub is_pointer : Exp → Bool
is_pointer (core.number z at) = false
is_pointer (null at) = true
is_pointer (register n pointer at) = pointer
is_pointer (object n at) = true
is_pointer (global address at) = true
is_pointer (load e pointer at) = pointer
is_pointer (unary o e at) = false
is_pointer (binary o a b at) = false
is_pointer (move a b element back at) = true
is_pointer (advance a b element at) = true
is_pointer (member a by at) = true
is_pointer (between a b element at) = false
is_pointer (to_pointer a at) = true
is_pointer (to_number a at) = false
is_pointer (copy a at) = is_pointer a
is_pointer (both a b at) = false
is_pointer (either a b at) = false
is_pointer (conditional a b c at) = is_pointer b
is_pointer (comma a b at) = is_pointer b
is_pointer (set_register n a at) = is_pointer a
is_pointer (store a b at) = is_pointer b
is_pointer (change_register n c a old at) = is_pointer_change c
is_pointer (change_cell a loaded c b old at) = is_pointer_change c
is_pointer (call f es pointer at) = pointer
is_pointer (library c es at) = false
is_pointer (allocate site a at) = true

-- how a statement ends: it goes on, breaks its loop, continues it, or returns a value at a line
pub data Completion : Type 0 where
  goes : Completion
  breaks : Completion
  continues : Completion
  returns : ℕ → ℕ → Completion

-- what follows is left out after `break`, `continue` or `return`
abbrev pub if_goes : Completion → M Completion → M Completion
if_goes goes m = m
if_goes breaks m = pure breaks
if_goes continues m = pure continues
if_goes (returns w line) m = pure (returns w line)

-- after the body of a loop
abbrev pub if_turns : Completion → M Completion → M Completion
if_turns goes m = m
if_turns breaks m = pure goes
if_turns continues m = m
if_turns (returns w line) m = pure (returns w line)

-- a function that ends without a value gives 0
abbrev pub word_given : Completion → ℕ
word_given (returns w line) = w
word_given _ = 0

-- the line of the `return`, or that of the end where there is none
abbrev pub line_given : ℕ → Completion → ℕ
line_given end (returns w line) = line
line_given end _ = end

-- in 64 bits: `-` of the least number overflows, `~` and `!` always succeed
abbrev pub unary_of : UnaryOp → ℕ → Result ℕ Trap
unary_of unary_op.Minus w = fitting (pos 0 -ℤ number w)
unary_of unary_op.Complement w = Ok (2 ^ 64 - 1 - w)
unary_of unary_op.Not w = Ok (truth (nat_eq w 0))

-- one object more in front of those that were made
abbrev pub with_first : ℕ → Option (List ℕ × ℕ) → Option (List ℕ × ℕ)
with_first w None = None
with_first w (Some made) = Some (w ∷ made.0, made.1)

-- the addresses of new objects in cells from `at` on, and the next free cell; none where they don't fit
abbrev pub made_objects : List Site → ℕ → List ℕ → ℕ → Option (List ℕ × ℕ)
made_objects sites end [] at = Some ([], at)
made_objects sites end (site ∷ more) at = if nat_le (at + size_of sites site) end then with_first (pointer_at site at (size_of sites site)) (made_objects sites end more (at + size_of sites site)) else None

-- words beyond the list are 0
abbrev pub listed_word : List ℕ → ℕ → ℕ
listed_word ws n = slice_index_or ws n 0

-- in a function: its arguments in its first registers and 0 in all others
abbrev pub entered : State → List ℕ → List ℕ → ℕ → State
entered s arguments addresses arena = record {
  registers = listed_word arguments;
  objects = listed_word addresses;
  count = s.count + 1;
  arena = arena;
  printed = s.printed;
  depth = s.depth + 1;
}

-- in the caller again
abbrev pub left : State → State → State
left s inner = record inner { registers = s.registers; objects = s.objects; depth = s.depth }

-- what a call of a function does, by its number, its arguments and its line
abbrev pub Calls : Type 0
Calls = ℕ → List ℕ → ℕ → M ℕ

-- the function with which a program starts (C99 5.1.2.2.1)
abbrev pub is_main : Function → Bool
is_main f = bytes_eq f.name (codes "main")

-- what a number calls: the functions come first, and after them the types of pointers to functions
pub data Callee : Type 0 where
  defined : Function → Callee
  -- the function to which the first argument points
  pointed : Pointer → Callee

-- in the order of their numbers
abbrev pub callees : Program → List Callee
callees p = map defined p.functions ++ map pointed p.pointers

-- whether a program starts with it
abbrev pub is_start : Callee → Bool
is_start (defined f) = is_main f
is_start (pointed q) = false

-- its name, or the first declaration of a pointer of its type
abbrev pub place_of : Callee → Position
place_of (defined f) = f.place
place_of (pointed q) = q.place

-- the sites of its objects: a call through a pointer has none of its own
abbrev pub objects_of : Callee → List ℕ
objects_of (defined f) = f.objects
objects_of (pointed q) = []

-- 0 where there is no such callee
abbrev pub line_of_callee : Option Callee → ℕ
line_of_callee None = 0
line_of_callee (Some c) = (place_of c).line

-- the pointer to a function, by the function's number; 0 is the null pointer
abbrev pub function_word : ℕ → ℕ
function_word n = word (pos (n + 1))

-- the function to which the word points
abbrev pub target_of : List ℕ → ℕ → Option ℕ
target_of targets w = find (λ n. nat_eq w (function_word n)) targets

-- the number of the function `main`
abbrev pub main_of : Program → ℕ
main_of p = unwrap_or (position is_main p.functions) 0

module _ (p : Program) (s : SetupView) (t : ℕ) where
  abbrev pub arena_start : ℕ
  arena_start = 2 * s.slots + length p.globals + t * s.cells

  abbrev pub arena_end : ℕ
  arena_end = arena_start + s.cells

  -- ---- cells

  abbrev pub load_in : ℕ → Result ℕ Trap → M ℕ
  load_in line (Ok cell) = event s.limit line (action.Load cell) >>= λ answer. pure (word answer)
  load_in line (Err kind) = trap_at line kind

  abbrev pub load_at : ℕ → ℕ → CellKind → M ℕ
  load_at line pointer kind = load_in line (resolved p.sites pointer kind)

  abbrev pub store_in : ℕ → Result ℕ Trap → ℕ → M (Unit {0})
  store_in line (Ok cell) w = event s.limit line (action.Store cell w) >> pure tt
  store_in line (Err kind) w = trap_at line kind

  abbrev pub store_at : ℕ → ℕ → CellKind → ℕ → M (Unit {0})
  store_at line pointer kind w = store_in line (resolved p.sites pointer kind) w

  abbrev pub changed : Change → ℕ → ℕ → Result ℕ Trap
  changed (change.Compute o) w by = binary_of o w by
  changed (change.Move element back) w by = moved_by p.sites w (directed back (number by) *ℤ pos element)

  -- `malloc`
  abbrev pub allocated : ℕ → ℕ → ℤ → M ℕ
  allocated line site n = λ σ k.
      if is_size (size_of p.sites site) n
      then (if nat_le (σ.arena + cells_in n) arena_end then k (pointer_at site σ.arena (cells_in n)) (record σ { arena = σ.arena + cells_in n }) else traps trap.ArenaFull line)
      else traps trap.BadSize line

  -- ---- calls of the library, each an event after another

  abbrev pub caller : State → Caller
  caller σ = record { sites = p.sites; setup = s; thread = t; printed = σ.printed }

  -- what is due in a call; an operation of one that prints a piece prints it
  abbrev pub by_due : ℕ → List ℕ → Due → M ℤ
  by_due line piece due.Nothing = λ σ k. ends
  by_due line piece due.Quiet = pure (pos 0)
  by_due line piece (due.Load c) = event s.limit line (action.Load c)
  by_due line piece (due.Store c w) = event s.limit line (action.Store c w)
  by_due line piece due.Mark = event s.limit line action.Mark
  by_due line piece (due.Operate o obj) = printing s.limit line (action.Operate o obj) piece
  by_due line piece (due.Trap kind) = trap_at line kind

  abbrev pub printed_more : ℕ → M (Unit {0})
  printed_more bytes = λ σ k. k tt (record σ { printed = σ.printed + bytes })

  -- the call goes on with the answer that it keeps, is over with a value, or was the thread's last
  abbrev pub onwards : (ℤ → M ℕ) → Onward → M ℕ
  onwards next (onward.Stays kept) = next kept
  onwards next (onward.Gives w) = pure w
  onwards next onward.Ends = λ σ k. ends

  -- so many events at most are left of the call; no call has more than four
  abbrev pub library_from : ℕ → ℕ → LibraryCall → List ℕ → ℕ → ℤ → M ℕ
  library_from zero line c ws made kept = λ σ k. ends
  library_from (suc n) line c ws made kept = λ σ.
      (by_due line (piece_of c ws) (library_due (caller σ) c ws made kept) >>= λ answer.
      printed_more (length (piece_of c ws)) >>
      onwards (library_from n line c ws (made + 1)) (library_onward (caller σ) c ws made kept answer)) σ

  abbrev pub library_call : ℕ → LibraryCall → List ℕ → M ℕ
  library_call line c ws = library_from 5 line c ws 0 (pos 0)

  -- ---- expressions

  abbrev mutual
    pub value : Calls → Exp → M ℕ
    value calls (core.number z at) = pure (word z)
    value calls (null at) = pure 0
    value calls (register n pointer at) = read_register n
    value calls (object n at) = read_object n
    value calls (global address at) = pure (based s.slots address)
    value calls (load e pointer at) = value calls e >>= λ w. load_at at.line w (access_kind pointer)
    value calls (unary o e at) = value calls e >>= λ w. result_at at.line (unary_of o w)
    value calls (binary o a b at) = do
      v ← value calls a
      w ← value calls b
      result_at at.line (either_binary_of (is_pointer a) p.sites o v w)
    value calls (move a b element back at) = do
      v ← value calls a
      w ← value calls b
      result_at at.line (moved_by p.sites v (directed back (number w) *ℤ pos element))
    value calls (advance a b element at) = do
      v ← value calls a
      w ← value calls b
      result_at at.line (moved_by p.sites w (number v *ℤ pos element))
    value calls (member a by at) = value calls a >>= λ w. result_at at.line (moved p.sites w (pos by))
    value calls (between a b element at) = do
      v ← value calls a
      w ← value calls b
      result_at at.line (compared p.sites v w (elements_between v w element))
    value calls (to_pointer a at) = value calls a >>= λ w. result_at at.line (pointer_to (number w))
    value calls (to_number a at) = value calls a >>= λ w. result_at at.line (number_from p.sites w)
    value calls (copy a at) = value calls a
    value calls (both a b at) = value calls a >>= λ v. choose v (value calls b >>= λ w. pure (truth (not (nat_eq w 0)))) (pure 0)
    value calls (either a b at) = value calls a >>= λ v. choose v (pure 1) (value calls b >>= λ w. pure (truth (not (nat_eq w 0))))
    value calls (conditional a b c at) = value calls a >>= λ v. choose v (value calls b) (value calls c)
    value calls (comma a b at) = value calls a >> value calls b
    value calls (set_register n a at) = do
      w ← value calls a
      write_register n w
      pure w
    value calls (store a b at) = do
      v ← value calls a
      w ← value calls b
      store_at at.line v (access_kind (is_pointer b)) w
      pure w
    value calls (change_register n c b old at) = do
      v ← read_register n
      w ← value calls b
      new ← result_at at.line (changed c v w)
      write_register n new
      pure (if old then v else new)
    value calls (change_cell a loaded c b old at) = do
      pointer ← value calls a
      v ← load_at loaded.line pointer (access_kind (is_pointer_change c))
      w ← value calls b
      new ← result_at at.line (changed c v w)
      store_at at.line pointer (access_kind (is_pointer_change c)) new
      pure (if old then v else new)
    value calls (call f es pointer at) = values calls es >>= λ ws. calls f ws at.line
    value calls (library c es at) = values calls es >>= λ ws. library_call at.line c ws
    value calls (allocate site a at) = value calls a >>= λ w. allocated at.line site (number w)

    pub values : Calls → Exps → M (List ℕ)
    values calls no_exp = pure []
    values calls (and_exp e es) = do
      w ← value calls e
      ws ← values calls es
      pure (w ∷ ws)

  -- an expression that isn't there holds
  abbrev pub test_value : Calls → Option Exp → M ℕ
  test_value calls None = pure 1
  test_value calls (Some e) = value calls e

  abbrev pub step_value : Calls → Option Exp → M ℕ
  step_value calls None = pure 0
  step_value calls (Some e) = value calls e

  -- ---- statements

  -- At most so many turns: each begins with a Mark, so the limit comes first. The condition comes before the body.
  abbrev pub turns : ℕ → ℕ → M ℕ → M Completion → M ℕ → M Completion
  turns zero line test body step = trap_at line trap.Limit
  turns (suc n) line test body step =
      event s.limit line action.Mark >>
      (test >>= λ w. choose w (body >>= λ f. if_turns f (step >> turns n line test body step)) (pure goes))

  -- The body comes before the condition.
  abbrev pub turns_after : ℕ → ℕ → M Completion → M ℕ → M Completion
  turns_after zero line body test = trap_at line trap.Limit
  turns_after (suc n) line body test =
      event s.limit line action.Mark >>
      (body >>= λ f. if_turns f (test >>= λ w. choose w (turns_after n line body test) (pure goes)))

  abbrev mutual
    pub meaning : Calls → Statement → M Completion
    meaning calls (block ss) = meanings calls ss
    meaning calls (compute e) = value calls e >> pure goes
    meaning calls (branch e a at) = value calls e >>= λ w. choose w (meaning calls a) (pure goes)
    meaning calls (branch_else e a b at) = value calls e >>= λ w. choose w (meaning calls a) (meaning calls b)
    meaning calls (while_loop e a at) = turns s.limit at.line (value calls e) (meaning calls a) (pure 0)
    meaning calls (do_loop a e at) = turns_after s.limit at.line (meaning calls a) (value calls e)
    meaning calls (for_loop start test step a at) =
        meaning calls start >>= λ f. if_goes f (turns s.limit at.line (test_value calls test) (meaning calls a) (step_value calls step))
    meaning calls (break_at at) = pure breaks
    meaning calls (continue_at at) = pure continues
    meaning calls (gives None at) = pure (returns 0 at.line)
    meaning calls (gives (Some e) at) = value calls e >>= λ w. pure (returns w at.line)

    pub meanings : Calls → Statements → M Completion
    meanings calls no_statement = pure goes
    meanings calls (and_statement a ss) = meaning calls a >>= λ f. if_goes f (meanings calls ss)

  -- ---- functions

  -- each formal that is kept in cells is stored
  abbrev pub stored : List Bool → List Arrival → M (Unit {0})
  stored pointers [] = pure tt
  stored pointers (arrives n k at ∷ more) = do
    w ← read_register n
    pointer ← read_object k
    store_at at.line pointer (access_kind (slice_index_or pointers n false)) w
    stored pointers more

  abbrev pub enter_made : List ℕ → ℕ → Option (List ℕ × ℕ) → M (Unit {0})
  enter_made ws line None = trap_at line trap.ArenaFull
  enter_made ws line (Some made) = λ σ k. does action.Mark [] (λ answer. k tt (entered σ ws made.0 made.1))

  -- the Mark with which a callee is entered, or the first trap that stands in its place
  abbrev pub enter : Callee → List ℕ → ℕ → M (Unit {0})
  enter c ws line = λ σ k.
      if nat_le s.limit σ.count then traps trap.Limit line
      else if nat_le most_frames σ.depth then traps trap.Depth line
      else enter_made ws line (made_objects p.sites arena_end (objects_of c) σ.arena) σ k

  -- the words of so many registers from r on
  abbrev pub read_registers : ℕ → ℕ → M (List ℕ)
  read_registers zero r = pure []
  read_registers (suc n) r = do
    w ← read_register r
    ws ← read_registers n (r + 1)
    pure (w ∷ ws)

  -- nothing is called through a pointer that points to no function of its type
  abbrev pub target_called : Calls → ℕ → List ℕ → Option ℕ → M Completion
  target_called calls line ws None = trap_at line trap.BadDereference
  target_called calls line ws (Some n) = calls n ws line >>= λ w. pure (returns w line)

  -- a call through a pointer calls its target with the arguments that follow (C99 6.5.2.2)
  abbrev pub body_of : Calls → Callee → M Completion
  body_of calls (defined f) = stored f.pointers f.arrivals >> meaning calls f.body
  body_of calls (pointed q) = do
    w ← read_register 0
    ws ← read_registers (length q.kinds) 1
    target_called calls q.place.line ws (target_of q.targets w)

  abbrev pub called : Calls → Option Callee → List ℕ → ℕ → M ℕ
  called calls None ws line = pure 0
  called calls (Some c) ws line = λ σ. (enter c ws line >> (body_of calls c >>= λ flow inner k. k (word_given flow) (left σ inner))) σ

  -- Calls nested so deep: each has a Mark, so the limit comes first.
  abbrev pub calls_of : ℕ → Calls
  calls_of zero c ws line = trap_at line trap.Limit
  calls_of (suc n) c ws line = called (calls_of n) (slice_get (callees p) c) ws line

  -- ---- threads

  -- the end of a thread's first function: of `main` that of the program, else the value is handed over, the slot ended and
  -- the live threads left
  abbrev pub finish : Bool → ℕ → ℕ → M (Unit {0})
  finish true line w = event s.limit line (action.Operate op.HaltAll object_id.Halt) >> pure tt
  finish false line w =
      event s.limit line (action.Store (result_cell t) w) >>
      (event s.limit line (action.Operate op.End (object_id.Slot t)) >>
      (event s.limit line (action.Operate op.Leave object_id.Threads) >> pure tt))

  -- where there is no such function, only the Mark comes
  abbrev pub first_function : Option Callee → List ℕ → M (Unit {0})
  first_function None ws = event s.limit 0 action.Mark >> pure tt
  first_function (Some c) ws =
      enter c ws (place_of c).line >> (body_of (calls_of s.limit) c >>= λ flow. finish (is_start c) (line_given (place_of c).line flow) (word_given flow))

  -- a thread is begun by its start, with a function, and loads its argument
  abbrev pub begun : M (Unit {0})
  begun = do
    f ← event s.limit 0 (action.Operate op.Begin (object_id.Slot t))
    w ← event s.limit (line_of_callee (slice_get (callees p) (count_in f))) (action.Load (argument_cell t))
    first_function (slice_get (callees p) (count_in f)) (word w ∷ [])

  -- nothing of a thread has run
  abbrev pub start : State
  start = record { registers = λ _. 0; objects = λ _. 0; count = 0; arena = arena_start; printed = 0; depth = 0 }

  abbrev pub thread_of : ℕ → M (Unit {0})
  thread_of zero = first_function (slice_get (callees p) (main_of p)) []
  thread_of (suc k) = begun

  -- what a thread of the program does
  abbrev pub run_of : Run
  run_of = thread_of t start (λ _ _. ends)
