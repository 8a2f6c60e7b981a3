-- Which cells and objects an instruction names: the cells of hand-offs, and those to which registers point.
use Rattle.std.proofs.Common.{◌≡◌, ℕ, zero, suc, ◌+◌, ◌<◌, ◌==◌, ◌&&◌, not, nat_le, nat_lt, ◌⊎◌, inl, inr, Bool, true, false, if◌then◌else◌, List, [], ◌∷◌, length, Option, Some, None, Result, Ok, Err, refl, sym, ap, ◌∙◌, ℤ, pos, negsuc, arith}
use Rattle.std.specs.Prelude.{slice_get}
use Rattle.std.proofs.lemmas.Bool.{lt-ltb, ltb-true}
use Rattle.std.proofs.lemmas.Option.{get_or_from_slice_get}
use Rattle.rr_base.specs.declared.trap.Trap.{Trap}
use Rattle.rr_base.specs.declared.trap.Trap.TheVariants as trap
use Rattle.rr_base.specs.declared.layout.CellKind.{CellKind}
use Rattle.rr_base.specs.declared.layout.CellKind.TheVariants as kind
use Rattle.sync_objects.specs.Setup.{SetupView}
use Rattle.sync_objects.specs.declared.object.ObjId.{ObjId}
use Rattle.sync_objects.specs.declared.object.ObjId.TheVariants as object
use Rattle.sync_objects.specs.declared.operation.Op.{Op}
use Rattle.sync_objects.specs.declared.operation.Op.TheVariants as op
use Rattle.word_semantics.specs.Cells.{argument_cell, result_cell, access_kind, size_of, is_size, cells_in}
use Rattle.word_semantics.specs.Library.{argument, slot_in, count_in, is_misuse, is_serial, is_joinable, join_thread_due, at_cell, cell_of, create_due, join_due, exit_due, mutex_due, rwlock_due, wait_due_at, barrier_count, print_due, most_printed, printed_piece, library_due}
use Rattle.word_semantics.specs.Limits.{most_frames}
use Rattle.word_semantics.specs.Pointers.{resolved}
use Rattle.word_semantics.specs.Registers.{register, words_of}
use Rattle.word_semantics.specs.Values.{number, word}
use Rattle.word_semantics.specs.declared.event.Due.{Due}
use Rattle.word_semantics.specs.declared.event.Due.TheVariants as due
use Rattle.word_semantics.specs.declared.library_call.LibraryCall.{LibraryCall}
use Rattle.word_semantics.specs.declared.library_call.LibraryCall.TheVariants as call
use Rattle.flow_code.specs.declared.act.Act.{Act}
use Rattle.flow_code.specs.declared.act.Act.TheVariants as act
use Rattle.flow_code.specs.declared.code.Code.{Code}
use Rattle.flow_code.specs.declared.region.Region.{Region}
use Rattle.flow_code.specs.declared.thread.Phase.{Phase}
use Rattle.flow_code.specs.declared.thread.Phase.TheVariants as phase
use Rattle.flow_code.specs.declared.thread.Stripe.{Stripe}
use Rattle.flow_code.specs.Holding.{region_of, lacked, take_or_quiet, to_give, give_or_quiet, owes, parting, parting_due}
use Rattle.flow_code.specs.Kinds.{has_register, has_pointer, have_kinds, library_fits, library_value_fits, starts_fit}
use Rattle.word_semantics.specs.Kinds.{library_kinds}
use Rattle.flow_code.specs.Next.{value_of, act_at, pointers_of, pointers_in, quiet_unless, load_due, store_due, mark_if, end_due, caller, act_due, begun_due, phase_due}
use Rattle.flow_code.specs.Threads.{Thread, arena_end, objects_in, fitted, is_main}
use Rattle.flow_code.specs.Valid.{is_valid}
use Rattle.flow_code.specs.Works.{is_pointer, work_of}
use Rattle.flow_code.proofs.ValidParts.{left, right}
use Rattle.core_run.specs.Words.{cells_of, has_object}
use Rattle.facts.specs.Accesses.{Access, access_of, library_access}
use Rattle.facts.specs.declared.constraint.Node.TheVariants.{Register}
use Rattle.points_to_sound.specs.Creations.{Creation, creation}
use Rattle.points_to_sound.specs.Objects.{Object, AreLaidOut}
use Rattle.points_to_sound.specs.Pointing.{joined, Reaches, GoodRunning, GoodPhase}
use Rattle.points_to_sound.proofs.Creating.{creating_at}
use Rattle.points_to_sound.proofs.Finding.{Stands, stands}
use Rattle.points_to_sound.proofs.Fitting.{stands_fit, pointer_is, kinds_at}
use Rattle.points_to_sound.proofs.Moved.{map_got}
use Rattle.points_to_sound.proofs.Reaching.{good_reaches}
use Rattle.points_to_sound.proofs.Storing.{two_arguments}
use Rattle.access_cells.specs.Accesses.{IsAccess}
use Rattle.access_cells.proofs.Joining.{joining_in, joins_at, joining}
use Rattle.access_cells.proofs.Wanting.{lacked_there}

-- an access of a cell by which threads hand over: an argument is handed to a thread that is being created, and taken by a
-- thread that begins; a result is handed over by a thread that ends, and taken by one that has joined it
pub data HandOff (code : Code) (t : ℕ) (th : Thread) (c : ℕ) (store : Bool) : Type 0 where
  takes_argument : (f : ℕ) → th.phase ≡ phase.Begun f → c ≡ argument_cell t → store ≡ false → HandOff code t th c store
  hands_argument : (x : Creation) → creation code th ≡ Some x → c ≡ argument_cell x.slot → store ≡ true → HandOff code t th c store
  takes_result : (k : ℕ) → joining code th ≡ Some k → c ≡ result_cell k → store ≡ false → HandOff code t th c store
  hands_result : c ≡ result_cell t → store ≡ true → HandOff code t th c store

argument_is : (registers rs : List ℕ) (i r : ℕ) → slice_get rs i ≡ Some r → argument (words_of registers rs) i ≡ register registers r
argument_is registers rs i r e = get_or_from_slice_get (words_of registers rs) i (register registers r) 0 (map_got (register registers) rs i r e)

module _ (code : Code) (s : SetupView) (t : ℕ) (made : List Object) (th : Thread) where
  -- an access of a hand-off cell, or one of the program
  abbrev pub Names : ℕ → Bool → Type 0
  Names c store = HandOff code t th c store ⊎ IsAccess code s made th c store

  -- the machine has a stripe that is taken; of those that are given nothing is said here
  abbrev pub IsTaken : Op → ℕ → ℕ → Type 0
  IsTaken op.Take lock stripe = has_object code s (object.Weak lock stripe) ≡ true
  IsTaken _ lock stripe = Unit {0}

  -- the machine has the object
  abbrev pub IsKnown : Op → ObjId → Type 0
  IsKnown o (object.Weak lock stripe) = IsTaken o lock stripe
  IsKnown o obj = has_object code s obj ≡ true

  abbrev pub IsThere : Due → Type 0
  IsThere (due.Load c) = Names c false
  IsThere (due.Store c w) = Names c true
  IsThere (due.Operate o obj) = IsKnown o obj
  IsThere _ = Unit {0}

module _ (code : Code) (s : SetupView) (t : ℕ) (lt : t < s.slots) (valid : is_valid code ≡ true) (made : List Object) (words marks : List ℕ) (laid : AreLaidOut code s made words marks) (th : Thread) (few : (x : Creation) → creation code th ≡ Some x → x.slot < s.slots) where
  abbrev Here : Due → Type 0
  Here d = IsThere code s t made th d

  own_slot : nat_lt t s.slots ≡ true
  own_slot = lt-ltb t s.slots lt

  there_if : (b : Bool) (d e : Due) → (b ≡ true → Here d) → (b ≡ false → Here e) → Here (if b then d else e)
  there_if true d e f g = f refl
  there_if false d e f g = g refl

  there_at : (r : Result ℕ Trap) (d : ℕ → Due) → ((c : ℕ) → r ≡ Ok c → Here (d c)) → Here (at_cell r d)
  there_at (Ok c) d f = f c refl
  there_at (Err e) d f = tt

  enter_there : (full deep : Bool) (o : Option ℕ) → Here (if full then due.Trap trap.Limit else if deep then due.Trap trap.Depth else mark_if o)
  enter_there true deep o = tt
  enter_there false true o = tt
  enter_there false false None = tt
  enter_there false false (Some a) = tt

  within : (r c : ℕ) (want : CellKind) → Reaches code s made (Register th.top.function r) c want → c < cells_of code s
  within r c want x = let w = x.within in (laid.inside x.object c x.is (record { from = omega (arith, x.cell); to = omega (arith, x.cell) })).1

  -- ---- a running thread

  module _ (runs : th.phase ≡ phase.Running) (g : GoodRunning code s made th) where
    reaches : (r c : ℕ) (want : CellKind) → is_pointer (pointers_of code th.top) r ≡ true → resolved code.sites (register th.top.registers r) want ≡ Ok c → Reaches code s made (Register th.top.function r) c want
    reaches r c want p e = good_reaches code s made valid laid.sized (Register th.top.function r) (register th.top.registers r) c want e (g.frames.0 r p)

    accesses : (i : Act) → act_at code th.top ≡ Some i → (a : Access) → access_of i ≡ Some a → (c : ℕ) (want : CellKind) → is_pointer (pointers_of code th.top) a.through ≡ true → resolved code.sites (register th.top.registers a.through) want ≡ Ok c → IsAccess code s made th c a.store
    accesses i at a is c want p e = record { runs = runs; instruction = i; at = at; access = a; is = is; stores = refl; kind = want; resolves = e; reaches = reaches a.through c want p e }

    load_there : (into through : ℕ) → act_at code th.top ≡ Some (act.LoadCell into through) → (want : CellKind) (r : Result ℕ Trap) → resolved code.sites (register th.top.registers through) want ≡ r → Here (load_due r)
    load_there into through at want (Err e) is = tt
    load_there into through at want (Ok c) is =
        let y = stands code th.top.function th.top.instr (act.LoadCell into through) at in
        let fit = stands_fit code valid th.top.function th.top.instr (act.LoadCell into through) y in
        inr (accesses (act.LoadCell into through) at (record { store = false; through = through }) refl c want (ap (λ o. is_pointer (pointers_in o) through) y.is_function ∙ pointer_is y.function through (right (has_register y.function into) (has_pointer y.function through) fit)) is)

    store_there : (through source w : ℕ) → act_at code th.top ≡ Some (act.StoreCell through source) → (want : CellKind) (r : Result ℕ Trap) → resolved code.sites (register th.top.registers through) want ≡ r → Here (store_due r w)
    store_there through source w at want (Err e) is = tt
    store_there through source w at want (Ok c) is =
        let y = stands code th.top.function th.top.instr (act.StoreCell through source) at in
        let fit = stands_fit code valid th.top.function th.top.instr (act.StoreCell through source) y in
        inr (accesses (act.StoreCell through source) at (record { store = true; through = through }) refl c want (ap (λ o. is_pointer (pointers_in o) through) y.is_function ∙ pointer_is y.function through (left (has_pointer y.function through) (has_register y.function source) fit)) is)

    -- ---- calls of the library

    module _ (c : LibraryCall) (arguments : List ℕ) (into : Option ℕ) (at : act_at code th.top ≡ Some (act.Library c arguments into)) where
      y : Stands code th.top.function th.top.instr (act.Library c arguments into)
      y = stands code th.top.function th.top.instr (act.Library c arguments into) at

      kinds : have_kinds y.function arguments (library_kinds c) ≡ true
      kinds =
          let fit : library_fits code y.function c arguments into ≡ true = stands_fit code valid th.top.function th.top.instr (act.Library c arguments into) y in
          right (starts_fit code c) (have_kinds y.function arguments (library_kinds c)) (left (starts_fit code c && have_kinds y.function arguments (library_kinds c)) (library_value_fits y.function into c) fit)

      is_pointer_here : (r : ℕ) → is_pointer y.function.pointers r ≡ true → is_pointer (pointers_of code th.top) r ≡ true
      is_pointer_here r p = ap (λ o. is_pointer (pointers_in o) r) y.is_function ∙ p

      -- the cell to which an argument points is there
      cell_there : (i k : ℕ) (want : CellKind) → slice_get (library_kinds c) i ≡ Some true → resolved code.sites (argument (words_of th.top.registers arguments) i) want ≡ Ok k → nat_lt k (cells_of code s) ≡ true
      cell_there i k want is e =
          let a = kinds_at y.function arguments (library_kinds c) i true kinds is in
          let here : resolved code.sites (register th.top.registers a.0) want ≡ Ok k = sym (ap (λ w. resolved code.sites w want) (argument_is th.top.registers arguments i a.0 a.1)) ∙ e in
          lt-ltb k (cells_of code s) (within a.0 k want (reaches a.0 k want (is_pointer_here a.0 a.2) here))

    create_there : (f : ℕ) (arguments : List ℕ) (into : Option ℕ) (n : ℕ) → act_at code th.top ≡ Some (act.Library (call.Create f) arguments into) → th.top.made ≡ n → Here (create_due (caller code s t th) f (words_of th.top.registers arguments) n th.top.kept)
    create_there f arguments into zero at m = there_at (cell_of (caller code s t th) (words_of th.top.registers arguments) 0 kind.Whole) (λ c. due.Operate (op.Draw s.slots) object.Threads) (λ c e. refl)
    create_there f arguments into (suc zero) at m = inl (hands_argument (record { slot = slot_in th.top.kept; function = f; handed = false }) (creating_at code s t th runs f arguments into (suc zero) at m) refl refl)
    create_there f arguments into (suc (suc zero)) at m =
        there_at (cell_of (caller code s t th) (words_of th.top.registers arguments) 0 kind.Whole) (λ c. due.Store c (word th.top.kept)) stores
      where
        stores : (c : ℕ) → resolved code.sites (argument (words_of th.top.registers arguments) 0) kind.Whole ≡ Ok c → Names code s t made th c true
        stores c e =
            let two = two_arguments (y (call.Create f) arguments into at).function arguments true true (kinds (call.Create f) arguments into at) in
            let here : resolved code.sites (register th.top.registers two.first) kind.Whole ≡ Ok c = sym (ap (λ rs. resolved code.sites (argument (words_of th.top.registers rs) 0) kind.Whole) two.is) ∙ e in
            inr (accesses (act.Library (call.Create f) arguments into) at (record { store = true; through = two.first }) (ap (library_access (call.Create f)) two.is) c kind.Whole (is_pointer_here (call.Create f) arguments into at two.first two.first_is) here)
    create_there f arguments into (suc (suc (suc n))) at m =
        lt-ltb (slot_in th.top.kept) s.slots (few (record { slot = slot_in th.top.kept; function = f; handed = true }) (creating_at code s t th runs f arguments into (suc (suc (suc n))) at m))

    -- the slot of a thread that may be joined is there
    joinable : (n : ℤ) → is_joinable (caller code s t th) n ≡ true → nat_lt (slot_in n) s.slots ≡ true
    joinable (pos n) e = by (nat_lt n 16)
      where
        below : n < s.slots
        below = ltb-true n s.slots (right (nat_le 1 n) (nat_lt n s.slots) (left (nat_le 1 n && nat_lt n s.slots) (not (n == t)) e))

        by : (b : Bool) → nat_lt (if b then n else 0) s.slots ≡ true
        by true = lt-ltb n s.slots below
        by false = lt-ltb 0 s.slots (let l = below in omega arith)
    joinable (negsuc n) e = cc

    join_thread_there : (n : ℤ) → Here (join_thread_due (caller code s t th) n)
    join_thread_there n = there_if (is_joinable (caller code s t th) n) (due.Operate op.Join (object.Slot (slot_in n))) (due.Trap trap.BadThread) (joinable n) (λ e. tt)

    join_there : (arguments : List ℕ) (into : Option ℕ) (n : ℕ) → act_at code th.top ≡ Some (act.Library call.Join arguments into) → th.top.made ≡ n → Here (join_due (caller code s t th) (words_of th.top.registers arguments) n th.top.kept)
    join_there arguments into zero at m =
        let ws = words_of th.top.registers arguments in
        there_if (argument ws 1 == 0) (join_thread_due (caller code s t th) (number (argument ws 0))) (at_cell (cell_of (caller code s t th) ws 1 kind.Pointer) (λ c. join_thread_due (caller code s t th) (number (argument ws 0))))
        (λ e. join_thread_there (number (argument ws 0)))
        (λ e. there_at (cell_of (caller code s t th) ws 1 kind.Pointer) (λ c. join_thread_due (caller code s t th) (number (argument ws 0))) (λ c e2. join_thread_there (number (argument ws 0))))
    join_there arguments into (suc zero) at m =
        there_if (is_misuse th.top.kept) (due.Trap trap.BadThread) (due.Load (result_cell (slot_in (number (argument (words_of th.top.registers arguments) 0))))) (λ e. tt)
        (λ e. inl (takes_result (joined th.top.registers arguments) (joins e) refl refl))
      where
        joins : is_misuse th.top.kept ≡ false → joining code th ≡ Some (joined th.top.registers arguments)
        joins e =
            ap (joining_in code th.top) runs ∙ ap (λ a. joins_at th.top.registers a th.top.made th.top.kept) at
            ∙ ap (λ j. joins_at th.top.registers (Some (act.Library call.Join arguments into)) j th.top.kept) m
            ∙ ap (λ b. if b then None else Some (joined th.top.registers arguments)) e
    join_there arguments into (suc (suc n)) at m =
        there_at (cell_of (caller code s t th) (words_of th.top.registers arguments) 1 kind.Pointer) (λ c. due.Store c (word th.top.kept)) stores
      where
        stores : (c : ℕ) → resolved code.sites (argument (words_of th.top.registers arguments) 1) kind.Pointer ≡ Ok c → Names code s t made th c true
        stores c e =
            let two = two_arguments (y call.Join arguments into at).function arguments false true (kinds call.Join arguments into at) in
            let here : resolved code.sites (register th.top.registers two.second) kind.Pointer ≡ Ok c = sym (ap (λ rs. resolved code.sites (argument (words_of th.top.registers rs) 1) kind.Pointer) two.is) ∙ e in
            inr (accesses (act.Library call.Join arguments into) at (record { store = true; through = two.second }) (ap (library_access call.Join) two.is) c kind.Pointer (is_pointer_here call.Join arguments into at two.second two.second_is) here)

    exit_there : (value n : ℕ) → Here (exit_due (caller code s t th) value n)
    exit_there value zero = inl (hands_result refl refl)
    exit_there value (suc zero) = own_slot
    exit_there value (suc (suc n)) = refl

    mutex_there : (o : Op) (ws : List ℕ) (n : ℕ) (kept : ℤ) → ((k : ℕ) → resolved code.sites (argument ws 0) kind.Mutex ≡ Ok k → nat_lt k (cells_of code s) ≡ true) → Here (mutex_due (caller code s t th) o ws n kept)
    mutex_there o ws zero kept f = there_at (cell_of (caller code s t th) ws 0 kind.Mutex) (λ k. due.Operate o (object.Mutex k)) f
    mutex_there o ws (suc n) kept f = there_if (is_misuse kept) (due.Trap trap.MutexMisuse) due.Quiet (λ e. tt) (λ e. tt)

    rwlock_there : (o : Op) (ws : List ℕ) (n : ℕ) (kept : ℤ) → ((k : ℕ) → resolved code.sites (argument ws 0) kind.Rw ≡ Ok k → nat_lt k (cells_of code s) ≡ true) → Here (rwlock_due (caller code s t th) o ws n kept)
    rwlock_there o ws zero kept f = there_at (cell_of (caller code s t th) ws 0 kind.Rw) (λ k. due.Operate o (object.Rw k)) f
    rwlock_there o ws (suc n) kept f = there_if (is_misuse kept) (due.Trap trap.RwMisuse) due.Quiet (λ e. tt) (λ e. tt)

    wait_there : (c m n : ℕ) (kept : ℤ) → nat_lt c (cells_of code s) ≡ true → nat_lt m (cells_of code s) ≡ true → Here (wait_due_at c m n kept)
    wait_there c m zero kept a b = a
    wait_there c m (suc zero) kept a b = b
    wait_there c m (suc (suc zero)) kept a b = there_if (is_misuse kept) (due.Trap trap.MutexMisuse) (due.Operate (op.CondWake (count_in kept)) (object.Cond c)) (λ e. tt) (λ e. a)
    wait_there c m (suc (suc (suc n))) kept a b = b

    asks_there : (ws : List ℕ) (want : CellKind) → Here (at_cell (cell_of (caller code s t th) ws 0 want) (λ c. due.Quiet))
    asks_there ws want = there_at (cell_of (caller code s t th) ws 0 want) (λ c. due.Quiet) (λ c e. tt)

    print_there : (n : ℕ) → Here (print_due (caller code s t th) n)
    print_there n = there_if (nat_le (th.printed + n) most_printed) (due.Operate op.Print object.Output) (due.Trap trap.Limit) (λ e. refl) (λ e. tt)

    call_there : (c : LibraryCall) (arguments : List ℕ) (into : Option ℕ) (n : ℕ) → act_at code th.top ≡ Some (act.Library c arguments into) → th.top.made ≡ n → Here (library_due (caller code s t th) c (words_of th.top.registers arguments) n th.top.kept)
    call_there (call.Create f) arguments into n at m = create_there f arguments into n at m
    call_there call.Join arguments into n at m = join_there arguments into n at m
    call_there call.Exit arguments into n at m = exit_there (argument (words_of th.top.registers arguments) 0) n
    call_there call.SelfNumber arguments into n at m = tt
    call_there call.SameThread arguments into n at m = tt
    call_there call.MutexInit arguments into n at m = mutex_there op.MutexInit (words_of th.top.registers arguments) n th.top.kept (λ k e. cell_there call.MutexInit arguments into at 0 k kind.Mutex refl e)
    call_there call.MutexLock arguments into n at m = mutex_there op.Lock (words_of th.top.registers arguments) n th.top.kept (λ k e. cell_there call.MutexLock arguments into at 0 k kind.Mutex refl e)
    call_there call.MutexUnlock arguments into n at m = mutex_there op.Unlock (words_of th.top.registers arguments) n th.top.kept (λ k e. cell_there call.MutexUnlock arguments into at 0 k kind.Mutex refl e)
    call_there call.MutexTryLock arguments into zero at m = there_at (cell_of (caller code s t th) (words_of th.top.registers arguments) 0 kind.Mutex) (λ k. due.Operate op.TryLock (object.Mutex k)) (λ k e. cell_there call.MutexTryLock arguments into at 0 k kind.Mutex refl e)
    call_there call.MutexTryLock arguments into (suc n) at m = tt
    call_there call.MutexDestroy arguments into n at m = asks_there (words_of th.top.registers arguments) kind.Mutex
    call_there call.CondInit arguments into n at m = asks_there (words_of th.top.registers arguments) kind.Cond
    call_there call.CondWait arguments into n at m =
        there_at (cell_of (caller code s t th) (words_of th.top.registers arguments) 0 kind.Cond) (λ c. at_cell (cell_of (caller code s t th) (words_of th.top.registers arguments) 1 kind.Mutex) (λ k. wait_due_at c k n th.top.kept))
        (λ c e. there_at (cell_of (caller code s t th) (words_of th.top.registers arguments) 1 kind.Mutex) (λ k. wait_due_at c k n th.top.kept)
        (λ k e2. wait_there c k n th.top.kept (cell_there call.CondWait arguments into at 0 c kind.Cond refl e) (cell_there call.CondWait arguments into at 1 k kind.Mutex refl e2)))
    call_there call.CondSignal arguments into n at m = there_at (cell_of (caller code s t th) (words_of th.top.registers arguments) 0 kind.Cond) (λ c. due.Operate op.Signal (object.Cond c)) (λ k e. cell_there call.CondSignal arguments into at 0 k kind.Cond refl e)
    call_there call.CondDestroy arguments into n at m = asks_there (words_of th.top.registers arguments) kind.Cond
    call_there call.BarrierInit arguments into zero at m = there_at (cell_of (caller code s t th) (words_of th.top.registers arguments) 0 kind.Barrier) (λ c. due.Operate (op.BarrierInit (barrier_count (number (argument (words_of th.top.registers arguments) 1)))) (object.Barrier c)) (λ k e. cell_there call.BarrierInit arguments into at 0 k kind.Barrier refl e)
    call_there call.BarrierInit arguments into (suc n) at m = there_if (is_misuse th.top.kept) (due.Trap trap.BarrierMisuse) due.Quiet (λ e. tt) (λ e. tt)
    call_there call.BarrierWait arguments into zero at m = there_at (cell_of (caller code s t th) (words_of th.top.registers arguments) 0 kind.Barrier) (λ c. due.Operate op.Arrive (object.Barrier c)) (λ k e. cell_there call.BarrierWait arguments into at 0 k kind.Barrier refl e)
    call_there call.BarrierWait arguments into (suc n) at m =
        there_if (is_misuse th.top.kept) (due.Trap trap.BarrierMisuse) _ (λ e. tt)
        (λ e. there_if (is_serial th.top.kept) due.Quiet (at_cell (cell_of (caller code s t th) (words_of th.top.registers arguments) 0 kind.Barrier) (λ c. due.Operate (op.Pass (count_in th.top.kept)) (object.Barrier c))) (λ e2. tt)
        (λ e2. there_at (cell_of (caller code s t th) (words_of th.top.registers arguments) 0 kind.Barrier) (λ c. due.Operate (op.Pass (count_in th.top.kept)) (object.Barrier c)) (λ k e3. cell_there call.BarrierWait arguments into at 0 k kind.Barrier refl e3)))
    call_there call.BarrierDestroy arguments into n at m = asks_there (words_of th.top.registers arguments) kind.Barrier
    call_there call.RwInit arguments into n at m = rwlock_there op.RwInit (words_of th.top.registers arguments) n th.top.kept (λ k e. cell_there call.RwInit arguments into at 0 k kind.Rw refl e)
    call_there call.RwRdLock arguments into n at m = rwlock_there op.RdLock (words_of th.top.registers arguments) n th.top.kept (λ k e. cell_there call.RwRdLock arguments into at 0 k kind.Rw refl e)
    call_there call.RwWrLock arguments into n at m = rwlock_there op.WrLock (words_of th.top.registers arguments) n th.top.kept (λ k e. cell_there call.RwWrLock arguments into at 0 k kind.Rw refl e)
    call_there call.RwUnlock arguments into n at m = rwlock_there op.RwUnlock (words_of th.top.registers arguments) n th.top.kept (λ k e. cell_there call.RwUnlock arguments into at 0 k kind.Rw refl e)
    call_there call.RwDestroy arguments into n at m = asks_there (words_of th.top.registers arguments) kind.Rw
    call_there call.Free arguments into n at m = tt
    call_there call.GetChar arguments into n at m = refl
    call_there (call.Print format) arguments into n at m = print_there (length (printed_piece format (words_of th.top.registers arguments)))
    call_there call.PutChar arguments into n at m = print_there 1

    parting_there : (xs : List Stripe) (d : Due) → Here d → Here (parting_due xs d)
    parting_there [] d h = h
    parting_there (x ∷ xs) d h = there_if (owes (x ∷ xs)) due.Quiet (due.Operate op.Give (object.Weak x.lock x.stripe)) (λ e. tt) (λ e. tt)

    -- ---- all instructions

    quiet_there : (r : Result ℕ Trap) → Here (quiet_unless r)
    quiet_there (Ok w) = tt
    quiet_there (Err e) = tt

    malloc_there : (sized fits : Bool) → Here (if sized then (if fits then due.Quiet else due.Trap trap.ArenaFull) else due.Trap trap.BadSize)
    malloc_there true true = tt
    malloc_there true false = tt
    malloc_there false fits = tt

    end_there : (main : Bool) (n value : ℕ) → Here (end_due main t n value)
    end_there true n value = refl
    end_there false zero value = inl (hands_result refl refl)
    end_there false (suc zero) value = own_slot
    end_there false (suc (suc n)) value = refl

    take_there : (r : Option Region) (o : Option ℕ) → lacked code th r ≡ o → Here (take_or_quiet o)
    take_there r None e = tt
    take_there r (Some n) e = lacked_there code th r n e

    give_there : (o : Option (ℕ × ℕ)) → Here (give_or_quiet o)
    give_there None = tt
    give_there (Some n) = tt

    act_there : (o : Option Act) → act_at code th.top ≡ o → Here (act_due code s t th o)
    act_there None at = tt
    act_there (Some (act.Compute into v)) at = quiet_there (work_of s.slots code.sites (pointers_of code th.top) th.top.registers v)
    act_there (Some (act.Alloc into site None)) at = tt
    act_there (Some (act.Alloc into site (Some size))) at = malloc_there (is_size (size_of code.sites site) (number (register th.top.registers size))) (nat_le (th.arena + cells_in (number (register th.top.registers size))) (arena_end code s t))
    act_there (Some (act.LoadCell into through)) at = load_there into through at (access_kind (is_pointer (pointers_of code th.top) into)) (resolved code.sites (register th.top.registers through) (access_kind (is_pointer (pointers_of code th.top) into))) refl
    act_there (Some (act.StoreCell through source)) at = store_there through source (register th.top.registers source) at (access_kind (is_pointer (pointers_of code th.top) source)) (resolved code.sites (register th.top.registers through) (access_kind (is_pointer (pointers_of code th.top) source))) refl
    act_there (Some act.Mark) at = tt
    act_there (Some (act.Call f arguments into)) at = enter_there (nat_le s.limit th.count) (nat_le most_frames (length th.below + 1)) (fitted code.sites (arena_end code s t) (objects_in code f) th.arena)
    act_there (Some (act.Library k arguments into)) at = parting_there (parting k th.top.made th.stripes) (library_due (caller code s t th) k (words_of th.top.registers arguments) th.top.made th.top.kept) (call_there k arguments into th.top.made at refl)
    act_there (Some (act.Jump to)) at = tt
    act_there (Some (act.Branch on a b)) at = tt
    act_there (Some (act.Return value)) at = there_if (length th.below == 0) (end_due (is_main code th.top.function) t th.top.made (value_of th.top.registers value)) due.Quiet (λ e. end_there (is_main code th.top.function) th.top.made (value_of th.top.registers value)) (λ e. tt)
    act_there (Some (act.Take k)) at = take_there (region_of code th.top k) (lacked code th (region_of code th.top k)) refl
    act_there (Some (act.Give k)) at = give_there (to_give code th k)

  -- ---- any thread

  begun_there : (f u : ℕ) → th.phase ≡ phase.Begun f → u ≡ t → Here (begun_due code s u th f)
  begun_there f zero p e = enter_there (nat_le s.limit th.count) (nat_le most_frames 0) (fitted code.sites (arena_end code s zero) (objects_in code f) th.arena)
  begun_there f (suc k) p e = inl (takes_argument f p (ap argument_cell e) refl)

  pub phase_there : (p : Phase) → th.phase ≡ p → GoodPhase code s made th p → Here (phase_due code s t th p)
  phase_there phase.Fresh e g = own_slot
  phase_there (phase.Begun f) e g = begun_there f t e refl
  phase_there (phase.Loaded f w) e g = enter_there (nat_le s.limit th.count) (nat_le most_frames 0) (fitted code.sites (arena_end code s t) (objects_in code f) th.arena)
  phase_there phase.Running e g = act_there e g (act_at code th.top) refl
  phase_there phase.Ended e g = tt
  phase_there phase.Halted e g = tt
  phase_there (phase.Trapped kind line) e g = tt
  phase_there phase.Stopped e g = tt
  phase_there phase.Closed e g = tt
