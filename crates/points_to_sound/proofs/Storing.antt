-- What a thread stores, and where: in a cell of an object, to a thread that it creates, or as its own result.
use Rattle.std.proofs.Common.{◌≡◌, ℕ, zero, suc, ◌+◌, ◌<◌, ◌&&◌, ◌==◌, not, ⊎_elim, nat_le, Bool, true, false, if◌then◌else◌, List, [], ◌∷◌, length, reverse, Option, Some, None, Result, Ok, Err, refl, sym, ap, subst, ◌∙◌, ℤ, arith, eqb-true}
use Rattle.std.specs.Prelude.{slice_get}
use Rattle.std.specs.List.{Contains}
use Rattle.std.proofs.lemmas.Bool.{true≢false}
use Rattle.rr_base.specs.Words.{class_of}
use Rattle.rr_base.specs.declared.trap.Trap.{Trap}
use Rattle.rr_base.specs.declared.trap.Trap.TheVariants as trap
use Rattle.rr_base.specs.declared.layout.CellKind.{CellKind}
use Rattle.rr_base.specs.declared.layout.CellKind.TheVariants as kind
use Rattle.sync_objects.specs.Setup.{SetupView}
use Rattle.sync_objects.specs.declared.object.ObjId.TheVariants as object
use Rattle.sync_objects.specs.declared.operation.Op.{Op}
use Rattle.sync_objects.specs.declared.operation.Op.TheVariants as op
use Rattle.word_semantics.specs.Cells.{argument_cell, result_cell, access_kind, size_of, is_size, cells_in}
use Rattle.word_semantics.specs.Library.{Caller, argument, slot_in, is_misuse, is_serial, is_joinable, join_thread_due, at_cell, cell_of, create_due, join_due, exit_due, mutex_due, rwlock_due, wait_due_at, print_due, most_printed, printed_piece, library_due, count_in}
use Rattle.word_semantics.specs.Pointers.{site_at, kind_in, resolved}
use Rattle.word_semantics.specs.Registers.{register, words_of}
use Rattle.word_semantics.specs.Values.{number, word}
use Rattle.word_semantics.specs.declared.event.Due.{Due}
use Rattle.word_semantics.specs.declared.event.Due.TheVariants as due
use Rattle.word_semantics.specs.declared.library_call.LibraryCall.{LibraryCall}
use Rattle.word_semantics.specs.declared.library_call.LibraryCall.TheVariants as call
use Rattle.flow_code.specs.declared.act.Act.{Act}
use Rattle.flow_code.specs.declared.act.Act.TheVariants as act
use Rattle.flow_code.specs.declared.code.Code.{Code}
use Rattle.flow_code.specs.declared.code.Function.{Function}
use Rattle.flow_code.specs.declared.thread.Stripe.{Stripe}
use Rattle.flow_code.specs.declared.thread.Phase.TheVariants as phase
use Rattle.flow_code.specs.Holding.{region_of, lacked, take_or_quiet, to_give, give_or_quiet, owes, parting, parting_due}
use Rattle.flow_code.specs.Kinds.{has_kind, has_pointer, has_register, have_kinds, library_fits, library_value_fits, starts_fit, may_start}
use Rattle.word_semantics.specs.Kinds.{library_kinds}
use Rattle.word_semantics.specs.Limits.{most_frames}
use Rattle.flow_code.specs.Next.{value_of, act_at, pointers_of, pointers_in, quiet_unless, load_due, mark_if, act_due, store_due, end_due, return_due, caller}
use Rattle.flow_code.specs.Threads.{Frame, Thread, arena_end, objects_in, fitted, is_main, is_main_in}
use Rattle.flow_code.specs.Works.{is_pointer, work_of}
use Rattle.flow_code.proofs.ValidParts.{left, right}
use Rattle.facts.specs.PointsTo.{place, element_of, constraints_of, stored}
use Rattle.facts.specs.declared.constraint.Constraint.TheVariants.{Included, Stored}
use Rattle.facts.specs.declared.constraint.Node.{Node}
use Rattle.facts.specs.declared.constraint.Node.TheVariants.{Register, Result as ResultOf, Ended, Cells}
use Rattle.points_to_sound.specs.Objects.{Object, IsObject}
use Rattle.points_to_sound.specs.Pointing.{act_of, IsGood, IsRoot, IsStarted, Linked, GoodKept, GoodRunning}
use Rattle.points_to_sound.proofs.Acting.{Knows}
use Rattle.points_to_sound.proofs.Calling.{result_good}
use Rattle.points_to_sound.proofs.Finding.{first_of, later_of, constraint_of, Stands, stands}
use Rattle.points_to_sound.proofs.Fitting.{stands_fit, kind_is, pointer_is}
use Rattle.points_to_sound.proofs.Moving.{good_to, good_included}
use Rattle.points_to_sound.proofs.Reaching.{good_reaches}

-- ---- arguments

pub record OneArgument (f : Function) (rs : List ℕ) (a : Bool) : Type 0 where
  pub first : ℕ
  pub is : rs ≡ first ∷ []
  pub first_is : is_pointer f.pointers first ≡ a

pub record TwoArguments (f : Function) (rs : List ℕ) (a b : Bool) : Type 0 where
  pub first : ℕ
  pub second : ℕ
  pub is : rs ≡ first ∷ second ∷ []
  pub first_is : is_pointer f.pointers first ≡ a
  pub second_is : is_pointer f.pointers second ≡ b

pub one_argument : (f : Function) (rs : List ℕ) (a : Bool) → have_kinds f rs (a ∷ []) ≡ true → OneArgument f rs a
one_argument f [] a h = cc
one_argument f (r ∷ []) a h = record { first = r; is = refl; first_is = kind_is f a r (left (has_kind f a r) true h) }
one_argument f (r ∷ q ∷ rs) a h = let e = right (has_kind f a r) false h in cc

pub two_arguments : (f : Function) (rs : List ℕ) (a b : Bool) → have_kinds f rs (a ∷ b ∷ []) ≡ true → TwoArguments f rs a b
two_arguments f [] a b h = cc
two_arguments f (r ∷ []) a b h = let e = right (has_kind f a r) false h in cc
two_arguments f (r ∷ q ∷ []) a b h = record { first = r; second = q; is = refl; first_is = kind_is f a r (left (has_kind f a r) (has_kind f b q && true) h); second_is = kind_is f b q (left (has_kind f b q) true (right (has_kind f a r) (has_kind f b q && true) h)) }
two_arguments f (r ∷ q ∷ p ∷ rs) a b h = let e = right (has_kind f b q) false (right (has_kind f a r) (has_kind f b q && false) h) in cc

-- ---- what is no store

abbrev pub IsStore : Due → ℕ → ℕ → Type 0
IsStore d c w = d ≡ due.Store c w

no_store_if : (b : Bool) (d e : Due) (c w : ℕ) → (IsStore d c w → ⊥) → (IsStore e c w → ⊥) → IsStore (if b then d else e) c w → ⊥
no_store_if true d e c w f g h = f h
no_store_if false d e c w f g h = g h

no_store_at : (r : Result ℕ Trap) (d : ℕ → Due) (c w : ℕ) → ((k : ℕ) → IsStore (d k) c w → ⊥) → IsStore (at_cell r d) c w → ⊥
no_store_at (Ok k) d c w f h = f k h
no_store_at (Err e) d c w f h = cc

at_cell_inv : (r : Result ℕ Trap) (d : ℕ → Due) (c w : ℕ) → IsStore (at_cell r d) c w → (k : ℕ) × (r ≡ Ok k) × IsStore (d k) c w
at_cell_inv (Ok k) d c w h = (k, refl, h)
at_cell_inv (Err e) d c w h = cc

pub store_inv : (r : Result ℕ Trap) (v c w : ℕ) → IsStore (store_due r v) c w → (r ≡ Ok c) × (v ≡ w)
store_inv (Ok k) v c w h = let e : k ≡ c = cc in let f : v ≡ w = cc in (ap (λ (n : ℕ). Ok n) e, f)
store_inv (Err e) v c w h = cc

same_store : (k v c w : ℕ) → due.Store k v ≡ due.Store c w → (k ≡ c) × (v ≡ w)
same_store k v c w h = (cc, cc)

mutex_stores_none : (w : Caller) (o : Op) (ws : List ℕ) (n : ℕ) (kept : ℤ) (c v : ℕ) → IsStore (mutex_due w o ws n kept) c v → ⊥
mutex_stores_none w o ws zero kept c v h = no_store_at (cell_of w ws 0 kind.Mutex) (λ k. due.Operate o (object.Mutex k)) c v (λ k e. cc) h
mutex_stores_none w o ws (suc n) kept c v h = no_store_if (is_misuse kept) (due.Trap trap.MutexMisuse) due.Quiet c v (λ e. cc) (λ e. cc) h

rwlock_stores_none : (w : Caller) (o : Op) (ws : List ℕ) (n : ℕ) (kept : ℤ) (c v : ℕ) → IsStore (rwlock_due w o ws n kept) c v → ⊥
rwlock_stores_none w o ws zero kept c v h = no_store_at (cell_of w ws 0 kind.Rw) (λ k. due.Operate o (object.Rw k)) c v (λ k e. cc) h
rwlock_stores_none w o ws (suc n) kept c v h = no_store_if (is_misuse kept) (due.Trap trap.RwMisuse) due.Quiet c v (λ e. cc) (λ e. cc) h

wait_stores_none : (c m n : ℕ) (kept : ℤ) (d v : ℕ) → IsStore (wait_due_at c m n kept) d v → ⊥
wait_stores_none c m zero kept d v h = cc
wait_stores_none c m (suc zero) kept d v h = cc
wait_stores_none c m (suc (suc zero)) kept d v h = no_store_if (is_misuse kept) (due.Trap trap.MutexMisuse) (due.Operate (op.CondWake (count_in kept)) (object.Cond c)) d v (λ e. cc) (λ e. cc) h
wait_stores_none c m (suc (suc (suc n))) kept d v h = cc

join_thread_stores_none : (w : Caller) (n : ℤ) (c v : ℕ) → IsStore (join_thread_due w n) c v → ⊥
join_thread_stores_none w n c v h = no_store_if (is_joinable w n) (due.Operate op.Join (object.Slot (slot_in n))) (due.Trap trap.BadThread) c v (λ e. cc) (λ e. cc) h

print_stores_none : (w : Caller) (n c v : ℕ) → IsStore (print_due w n) c v → ⊥
print_stores_none w n c v h = no_store_if (nat_le (w.printed + n) most_printed) (due.Operate op.Print object.Output) (due.Trap trap.Limit) c v (λ e. cc) (λ e. cc) h

asks_stores_none : (w : Caller) (ws : List ℕ) (k : CellKind) (c v : ℕ) → IsStore (at_cell (cell_of w ws 0 k) (λ c. due.Quiet)) c v → ⊥
asks_stores_none w ws k c v h = no_store_at (cell_of w ws 0 k) (λ c. due.Quiet) c v (λ k e. cc) h

-- the calls that store
abbrev pub MayStore : LibraryCall → Type 0
MayStore (call.Create f) = Unit {0}
MayStore call.Join = Unit {0}
MayStore call.Exit = Unit {0}
MayStore _ = ⊥

pub may_store : (w : Caller) (c : LibraryCall) (ws : List ℕ) (n : ℕ) (kept : ℤ) (k v : ℕ) → IsStore (library_due w c ws n kept) k v → MayStore c
may_store w (call.Create f) ws n kept k v h = tt
may_store w call.Join ws n kept k v h = tt
may_store w call.Exit ws n kept k v h = tt
may_store w call.SelfNumber ws n kept k v h = cc
may_store w call.SameThread ws n kept k v h = cc
may_store w call.MutexInit ws n kept k v h = mutex_stores_none w op.MutexInit ws n kept k v h
may_store w call.MutexLock ws n kept k v h = mutex_stores_none w op.Lock ws n kept k v h
may_store w call.MutexUnlock ws n kept k v h = mutex_stores_none w op.Unlock ws n kept k v h
may_store w call.MutexTryLock ws zero kept k v h = no_store_at (cell_of w ws 0 kind.Mutex) (λ k. due.Operate op.TryLock (object.Mutex k)) k v (λ k e. cc) h
may_store w call.MutexTryLock ws (suc n) kept k v h = cc
may_store w call.MutexDestroy ws n kept k v h = asks_stores_none w ws kind.Mutex k v h
may_store w call.CondInit ws n kept k v h = asks_stores_none w ws kind.Cond k v h
may_store w call.CondWait ws n kept k v h = no_store_at (cell_of w ws 0 kind.Cond) (λ c. at_cell (cell_of w ws 1 kind.Mutex) (λ m. wait_due_at c m n kept)) k v (λ c e. no_store_at (cell_of w ws 1 kind.Mutex) (λ m. wait_due_at c m n kept) k v (λ m e2. wait_stores_none c m n kept k v e2) e) h
may_store w call.CondSignal ws n kept k v h = no_store_at (cell_of w ws 0 kind.Cond) (λ c. due.Operate op.Signal (object.Cond c)) k v (λ k e. cc) h
may_store w call.CondDestroy ws n kept k v h = asks_stores_none w ws kind.Cond k v h
may_store w call.BarrierInit ws zero kept k v h = no_store_at (cell_of w ws 0 kind.Barrier) _ k v (λ k e. cc) h
may_store w call.BarrierInit ws (suc n) kept k v h = no_store_if (is_misuse kept) (due.Trap trap.BarrierMisuse) due.Quiet k v (λ e. cc) (λ e. cc) h
may_store w call.BarrierWait ws zero kept k v h = no_store_at (cell_of w ws 0 kind.Barrier) (λ c. due.Operate op.Arrive (object.Barrier c)) k v (λ k e. cc) h
may_store w call.BarrierWait ws (suc n) kept k v h =
    no_store_if (is_misuse kept) (due.Trap trap.BarrierMisuse) _ k v (λ e. cc)
    (λ e. no_store_if (is_serial kept) due.Quiet (at_cell (cell_of w ws 0 kind.Barrier) (λ c. due.Operate (op.Pass (count_in kept)) (object.Barrier c))) k v (λ e2. cc) (λ e2. no_store_at (cell_of w ws 0 kind.Barrier) (λ c. due.Operate (op.Pass (count_in kept)) (object.Barrier c)) k v (λ j e3. cc) e2) e) h
may_store w call.BarrierDestroy ws n kept k v h = asks_stores_none w ws kind.Barrier k v h
may_store w call.RwInit ws n kept k v h = rwlock_stores_none w op.RwInit ws n kept k v h
may_store w call.RwRdLock ws n kept k v h = rwlock_stores_none w op.RdLock ws n kept k v h
may_store w call.RwWrLock ws n kept k v h = rwlock_stores_none w op.WrLock ws n kept k v h
may_store w call.RwUnlock ws n kept k v h = rwlock_stores_none w op.RwUnlock ws n kept k v h
may_store w call.RwDestroy ws n kept k v h = asks_stores_none w ws kind.Rw k v h
may_store w call.Free ws n kept k v h = cc
may_store w call.GetChar ws n kept k v h = cc
may_store w (call.Print format) ws n kept k v h = print_stores_none w (length (printed_piece format ws)) k v h
may_store w call.PutChar ws n kept k v h = print_stores_none w 1 k v h

-- ---- what is stored

-- the word goes to a cell of an object and is good for it, or to the thread that is created, or is the thread's result
pub data Writes (code : Code) (s : SetupView) (t : ℕ) (made : List Object) (th : Thread) (c w : ℕ) : Type 0 where
  to_cell : (o : Object) (offset : ℕ) → IsObject code s made o → offset < o.cells → c ≡ o.base + offset → (kind_in (site_at code.sites o.site) offset ≡ Some kind.Pointer → IsGood code s made (Cells (place o.site (class_of (element_of code.sites o.site) offset))) w) → Writes code s t made th c w
  to_argument : (f : ℕ) (arguments : List ℕ) (into : Option ℕ) → act_at code th.top ≡ Some (act.Library (call.Create f) arguments into) → th.top.made ≡ 1 → c ≡ argument_cell (slot_in th.top.kept) → IsGood code s made (Register f 0) w → Writes code s t made th c w
  to_result : c ≡ result_cell t → IsGood code s made Ended w → Writes code s t made th c w

module _ (code : Code) (s : SetupView) (t : ℕ) (made : List Object) (words : List ℕ) (x : Knows code s t made words) (th : Thread) (runs : th.phase ≡ phase.Running) (g : GoodRunning code s made th) where
  -- a whole number goes to no pointer cell
  whole_kind : {P : Type 0} (o : Option CellKind) → o ≡ Some kind.Whole → o ≡ Some kind.Pointer → P
  whole_kind o e f = cc

  writes_whole : (n : Node) (p c w : ℕ) → resolved code.sites p kind.Whole ≡ Ok c → IsGood code s made n p → Writes code s t made th c w
  writes_whole n p c w e good =
      let r = good_reaches code s made x.valid x.sized n p c kind.Whole e good in
      to_cell r.object r.offset r.is r.within r.cell (λ k. whole_kind (kind_in (site_at code.sites r.object.site) r.offset) r.kind k)

  writes_pointer : (n m : Node) (p c w : ℕ) → Contains (constraints_of code) (Stored n m) → resolved code.sites p kind.Pointer ≡ Ok c → IsGood code s made n p → IsGood code s made m w → Writes code s t made th c w
  writes_pointer n m p c w stores e good value =
      let r = good_reaches code s made x.valid x.sized n p c kind.Pointer e good in
      to_cell r.object r.offset r.is r.within r.cell (λ k. good_to code s made m _ w (λ q h. stored stores r.may h) value)

  -- ---- an instruction that stores

  store_writes : (through from c w : ℕ) (b : Bool) → act_at code th.top ≡ Some (act.StoreCell through from) → is_pointer (pointers_of code th.top) from ≡ b → is_pointer (pointers_of code th.top) through ≡ true → resolved code.sites (register th.top.registers through) (access_kind b) ≡ Ok c → register th.top.registers from ≡ w → Writes code s t made th c w
  store_writes through from c w true at from_is through_is e value =
      writes_pointer (Register th.top.function through) (Register th.top.function from) (register th.top.registers through) c w
      (constraint_of code th.top.function th.top.instr (act.StoreCell through from) (Stored (Register th.top.function through) (Register th.top.function from)) at (first_of (Stored (Register th.top.function through) (Register th.top.function from)) []))
      e (g.frames.0 through through_is) (subst (IsGood code s made (Register th.top.function from)) value (g.frames.0 from from_is))
  store_writes through from c w false at from_is through_is e value = writes_whole (Register th.top.function through) (register th.top.registers through) c w e (g.frames.0 through through_is)

  pub stores : (through from c w : ℕ) → act_at code th.top ≡ Some (act.StoreCell through from) → IsStore (store_due (resolved code.sites (register th.top.registers through) (access_kind (is_pointer (pointers_of code th.top) from))) (register th.top.registers from)) c w → Writes code s t made th c w
  stores through from c w at h =
      let y = stands code th.top.function th.top.instr (act.StoreCell through from) at in
      let fit = stands_fit code x.valid th.top.function th.top.instr (act.StoreCell through from) y in
      let through_is : is_pointer (pointers_of code th.top) through ≡ true = ap (λ o. is_pointer (pointers_in o) through) y.is_function ∙ pointer_is y.function through (left (has_pointer y.function through) (has_register y.function from) fit) in
      let i = store_inv (resolved code.sites (register th.top.registers through) (access_kind (is_pointer (pointers_of code th.top) from))) (register th.top.registers from) c w h in
      store_writes through from c w (is_pointer (pointers_of code th.top) from) at refl through_is i.0 i.1

  -- ---- calls of the library

  module _ (c : LibraryCall) (arguments : List ℕ) (into : Option ℕ) (at : act_at code th.top ≡ Some (act.Library c arguments into)) where
    y : Stands code th.top.function th.top.instr (act.Library c arguments into)
    y = stands code th.top.function th.top.instr (act.Library c arguments into) at

    fit : library_fits code y.function c arguments into ≡ true
    fit = stands_fit code x.valid th.top.function th.top.instr (act.Library c arguments into) y

    call_starts : starts_fit code c ≡ true
    call_starts = left (starts_fit code c) (have_kinds y.function arguments (library_kinds c)) (left (starts_fit code c && have_kinds y.function arguments (library_kinds c)) (library_value_fits y.function into c) fit)

    call_kinds : have_kinds y.function arguments (library_kinds c) ≡ true
    call_kinds = right (starts_fit code c) (have_kinds y.function arguments (library_kinds c)) (left (starts_fit code c && have_kinds y.function arguments (library_kinds c)) (library_value_fits y.function into c) fit)

    register_good : (r : ℕ) → is_pointer y.function.pointers r ≡ true → IsGood code s made (Register th.top.function r) (register th.top.registers r)
    register_good r p = g.frames.0 r (ap (λ o. is_pointer (pointers_in o) r) y.is_function ∙ p)

  create_writes : (f : ℕ) (arguments : List ℕ) (into : Option ℕ) (n c w : ℕ) → act_at code th.top ≡ Some (act.Library (call.Create f) arguments into) → th.top.made ≡ n → IsStore (create_due (caller code s t th) f (words_of th.top.registers arguments) n th.top.kept) c w → Writes code s t made th c w
  create_writes f arguments into zero c w at n h = absurd (no_store_at (cell_of (caller code s t th) (words_of th.top.registers arguments) 0 kind.Whole) _ c w (λ k e. cc) h)
  create_writes f arguments into (suc zero) c w at n h =
      let two = two_arguments (y (call.Create f) arguments into at).function arguments true true (call_kinds (call.Create f) arguments into at) in
      let at2 : act_at code th.top ≡ Some (act.Library (call.Create f) (two.first ∷ two.second ∷ []) into) = at ∙ ap (λ (rs : List ℕ). Some (act.Library (call.Create f) rs into)) two.is in
      let i = same_store (argument_cell (slot_in th.top.kept)) (argument (words_of th.top.registers arguments) 1) c w h in
      let value : register th.top.registers two.second ≡ w = sym (ap (λ rs. argument (words_of th.top.registers rs) 1) two.is) ∙ i.1 in
      to_argument f arguments into at n (sym i.0)
      (subst (IsGood code s made (Register f 0)) value
      (good_included code s made (Register th.top.function two.second) (Register f 0) (register th.top.registers two.second)
      (constraint_of code th.top.function th.top.instr (act.Library (call.Create f) (two.first ∷ two.second ∷ []) into) (Included (Register th.top.function two.second) (Register f 0)) at2 (first_of (Included (Register th.top.function two.second) (Register f 0)) (Included (ResultOf f) Ended ∷ [])))
      (register_good (call.Create f) arguments into at two.second two.second_is)))
  create_writes f arguments into (suc (suc zero)) c w at n h =
      let two = two_arguments (y (call.Create f) arguments into at).function arguments true true (call_kinds (call.Create f) arguments into at) in
      let i = at_cell_inv (cell_of (caller code s t th) (words_of th.top.registers arguments) 0 kind.Whole) (λ k. due.Store k (word th.top.kept)) c w h in
      let j = same_store i.0 (word th.top.kept) c w i.2 in
      let e : resolved code.sites (register th.top.registers two.first) kind.Whole ≡ Ok c = sym (ap (λ rs. resolved code.sites (argument (words_of th.top.registers rs) 0) kind.Whole) two.is) ∙ i.1 ∙ ap (λ (k : ℕ). Ok k) j.0 in
      writes_whole (Register th.top.function two.first) (register th.top.registers two.first) c w e (register_good (call.Create f) arguments into at two.first two.first_is)
  create_writes f arguments into (suc (suc (suc n))) c w at m h = cc

  join_writes : (arguments : List ℕ) (into : Option ℕ) (n c w : ℕ) → act_at code th.top ≡ Some (act.Library call.Join arguments into) → GoodKept code s made th.top.registers (Some (act.Library call.Join arguments into)) n th.top.kept → IsStore (join_due (caller code s t th) (words_of th.top.registers arguments) n th.top.kept) c w → Writes code s t made th c w
  join_writes arguments into zero c w at kept h =
      let ws = words_of th.top.registers arguments in
      absurd (no_store_if (argument ws 1 == 0) (join_thread_due (caller code s t th) (number (argument ws 0))) (at_cell (cell_of (caller code s t th) ws 1 kind.Pointer) (λ c. join_thread_due (caller code s t th) (number (argument ws 0)))) c w
      (λ e. join_thread_stores_none (caller code s t th) (number (argument ws 0)) c w e)
      (λ e. no_store_at (cell_of (caller code s t th) ws 1 kind.Pointer) (λ c. join_thread_due (caller code s t th) (number (argument ws 0))) c w (λ k e2. join_thread_stores_none (caller code s t th) (number (argument ws 0)) c w e2) e) h)
  join_writes arguments into (suc zero) c w at kept h = absurd (no_store_if (is_misuse th.top.kept) (due.Trap trap.BadThread) (due.Load (result_cell (slot_in (number (argument (words_of th.top.registers arguments) 0))))) c w (λ e. cc) (λ e. cc) h)
  join_writes arguments into (suc (suc n)) c w at kept h =
      let two = two_arguments (y call.Join arguments into at).function arguments false true (call_kinds call.Join arguments into at) in
      let at2 : act_at code th.top ≡ Some (act.Library call.Join (two.first ∷ two.second ∷ []) into) = at ∙ ap (λ (rs : List ℕ). Some (act.Library call.Join rs into)) two.is in
      let i = at_cell_inv (cell_of (caller code s t th) (words_of th.top.registers arguments) 1 kind.Pointer) (λ k. due.Store k (word th.top.kept)) c w h in
      let j = same_store i.0 (word th.top.kept) c w i.2 in
      let e : resolved code.sites (register th.top.registers two.second) kind.Pointer ≡ Ok c = sym (ap (λ rs. resolved code.sites (argument (words_of th.top.registers rs) 1) kind.Pointer) two.is) ∙ i.1 ∙ ap (λ (k : ℕ). Ok k) j.0 in
      writes_pointer (Register th.top.function two.second) Ended (register th.top.registers two.second) c w
      (constraint_of code th.top.function th.top.instr (act.Library call.Join (two.first ∷ two.second ∷ []) into) (Stored (Register th.top.function two.second) Ended) at2 (first_of (Stored (Register th.top.function two.second) Ended) []))
      e (register_good call.Join arguments into at two.second two.second_is) (subst (IsGood code s made Ended) j.1 kept)

  exit_writes : (arguments : List ℕ) (into : Option ℕ) (n c w : ℕ) → act_at code th.top ≡ Some (act.Library call.Exit arguments into) → IsStore (exit_due (caller code s t th) (argument (words_of th.top.registers arguments) 0) n) c w → Writes code s t made th c w
  exit_writes arguments into zero c w at h =
      let one = one_argument (y call.Exit arguments into at).function arguments true (call_kinds call.Exit arguments into at) in
      let at2 : act_at code th.top ≡ Some (act.Library call.Exit (one.first ∷ []) into) = at ∙ ap (λ (rs : List ℕ). Some (act.Library call.Exit rs into)) one.is in
      let i = same_store (result_cell t) (argument (words_of th.top.registers arguments) 0) c w h in
      let value : register th.top.registers one.first ≡ w = sym (ap (λ rs. argument (words_of th.top.registers rs) 0) one.is) ∙ i.1 in
      to_result (sym i.0)
      (subst (IsGood code s made Ended) value
      (good_included code s made (Register th.top.function one.first) Ended (register th.top.registers one.first)
      (constraint_of code th.top.function th.top.instr (act.Library call.Exit (one.first ∷ []) into) (Included (Register th.top.function one.first) Ended) at2 (first_of (Included (Register th.top.function one.first) Ended) []))
      (register_good call.Exit arguments into at one.first one.first_is)))
  exit_writes arguments into (suc zero) c w at h = cc
  exit_writes arguments into (suc (suc n)) c w at h = cc

  call_writes : (k : LibraryCall) (arguments : List ℕ) (into : Option ℕ) (c w : ℕ) → act_at code th.top ≡ Some (act.Library k arguments into) → MayStore k → IsStore (library_due (caller code s t th) k (words_of th.top.registers arguments) th.top.made th.top.kept) c w → Writes code s t made th c w
  call_writes (call.Create f) arguments into c w at m h = create_writes f arguments into th.top.made c w at refl h
  call_writes call.Join arguments into c w at m h = join_writes arguments into th.top.made c w at (subst (λ o. GoodKept code s made th.top.registers o th.top.made th.top.kept) at g.kept) h
  call_writes call.Exit arguments into c w at m h = exit_writes arguments into th.top.made c w at h
  call_writes _ arguments into c w at m h = absurd m

  parting_store : (xs : List Stripe) (d : Due) (c w : ℕ) → IsStore (parting_due xs d) c w → IsStore d c w
  parting_store [] d c w h = h
  parting_store (z ∷ zs) d c w h = absurd (no_store_if (owes (z ∷ zs)) due.Quiet (due.Operate op.Give (object.Weak z.lock z.stripe)) c w (λ e. cc) (λ e. cc) h)

  pub library_writes : (k : LibraryCall) (arguments : List ℕ) (into : Option ℕ) (c w : ℕ) → act_at code th.top ≡ Some (act.Library k arguments into) → IsStore (parting_due (parting k th.top.made th.stripes) (library_due (caller code s t th) k (words_of th.top.registers arguments) th.top.made th.top.kept)) c w → Writes code s t made th c w
  library_writes k arguments into c w at h =
      let d = parting_store (parting k th.top.made th.stripes) (library_due (caller code s t th) k (words_of th.top.registers arguments) th.top.made th.top.kept) c w h in
      call_writes k arguments into c w at (may_store (caller code s t th) k (words_of th.top.registers arguments) th.top.made th.top.kept c w d) d

  -- ---- a function that a thread began with returns

  starts_gives : (o : Option Function) → may_start o ≡ true → (fn : Function) × (o ≡ Some fn) × (fn.gives_pointer ≡ true)
  starts_gives None h = cc
  starts_gives (Some fn) h = (fn, refl, right (not (is_main_in (Some fn)) && (fn.formals == 1) && is_pointer fn.pointers 0) fn.gives_pointer h)

  started_result : (value : Option ℕ) (c w : ℕ) → act_at code th.top ≡ Some (act.Return value) → IsStarted code th.top.function → c ≡ result_cell t → value_of th.top.registers value ≡ w → Writes code s t made th c w
  started_result value c w at started c_is w_is =
      let z = stands code started.function started.instr (act.Library (call.Create th.top.function) started.arguments started.into) started.at in
      let fits = stands_fit code x.valid started.function started.instr (act.Library (call.Create th.top.function) started.arguments started.into) z in
      let both = left (starts_fit code (call.Create th.top.function) && have_kinds z.function started.arguments (library_kinds (call.Create th.top.function))) (library_value_fits z.function started.into (call.Create th.top.function)) fits in
      let starts = left (starts_fit code (call.Create th.top.function)) (have_kinds z.function started.arguments (library_kinds (call.Create th.top.function))) both in
      let kinds = right (starts_fit code (call.Create th.top.function)) (have_kinds z.function started.arguments (library_kinds (call.Create th.top.function))) both in
      let two = two_arguments z.function started.arguments true true kinds in
      let at2 : act_of code started.function started.instr ≡ Some (act.Library (call.Create th.top.function) (two.first ∷ two.second ∷ []) started.into) = started.at ∙ ap (λ (rs : List ℕ). Some (act.Library (call.Create th.top.function) rs started.into)) two.is in
      let gives = starts_gives (slice_get code.functions th.top.function) starts in
      to_result c_is
      (subst (IsGood code s made Ended) w_is
      (good_included code s made (ResultOf th.top.function) Ended (value_of th.top.registers value)
      (constraint_of code started.function started.instr (act.Library (call.Create th.top.function) (two.first ∷ two.second ∷ []) started.into) (Included (ResultOf th.top.function) Ended) at2
      (later_of (Included (Register started.function two.second) (Register th.top.function 0)) (Included (ResultOf th.top.function) Ended) (Included (ResultOf th.top.function) Ended ∷ []) (first_of (Included (ResultOf th.top.function) Ended) [])))
      (result_good code s t made words x th runs g value gives.0 gives.1 gives.2 at)))

  end_writes : (main : Bool) (n : ℕ) (value : Option ℕ) (c w : ℕ) → act_at code th.top ≡ Some (act.Return value) → is_main code th.top.function ≡ main → IsRoot code th.top.function → IsStore (end_due main t n (value_of th.top.registers value)) c w → Writes code s t made th c w
  end_writes true n value c w at main root h = cc
  end_writes false zero value c w at main root h =
      let i = same_store (result_cell t) (value_of th.top.registers value) c w h in
      started_result value c w at (⊎_elim (λ m. absurd (true≢false (sym m ∙ main))) (λ z. z) root) (sym i.0) i.1
  end_writes false (suc zero) value c w at main root h = cc
  end_writes false (suc (suc n)) value c w at main root h = cc

  no_frames : (fs : List Frame) → (length fs == 0) ≡ true → fs ≡ []
  no_frames [] e = refl
  no_frames (f ∷ fs) e = let z = eqb-true (length (f ∷ fs)) 0 e in absurd (omega arith)

  pub return_writes : (value : Option ℕ) (c w : ℕ) → act_at code th.top ≡ Some (act.Return value) → IsStore (return_due code t th (value_of th.top.registers value)) c w → Writes code s t made th c w
  return_writes value c w at h = by (length th.below == 0) refl h
    where
      by : (b : Bool) → (length th.below == 0) ≡ b → IsStore (if b then end_due (is_main code th.top.function) t th.top.made (value_of th.top.registers value) else due.Quiet) c w → Writes code s t made th c w
      by true e h = end_writes (is_main code th.top.function) th.top.made value c w at refl (subst (λ fs. Linked code th.top.function (reverse fs)) (no_frames th.below e) g.frames.1) h
      by false e h = cc

  -- ---- all instructions

  no_quiet_store : (r : Result ℕ Trap) (c w : ℕ) → IsStore (quiet_unless r) c w → ⊥
  no_quiet_store (Ok v) c w h = cc
  no_quiet_store (Err e) c w h = cc

  no_load_store : (r : Result ℕ Trap) (c w : ℕ) → IsStore (load_due r) c w → ⊥
  no_load_store (Ok v) c w h = cc
  no_load_store (Err e) c w h = cc

  no_enter_store : (full deep : Bool) (o : Option ℕ) (c w : ℕ) → IsStore (if full then due.Trap trap.Limit else if deep then due.Trap trap.Depth else mark_if o) c w → ⊥
  no_enter_store true deep o c w h = cc
  no_enter_store false true o c w h = cc
  no_enter_store false false None c w h = cc
  no_enter_store false false (Some a) c w h = cc

  no_malloc_store : (sized fits : Bool) (c w : ℕ) → IsStore (if sized then (if fits then due.Quiet else due.Trap trap.ArenaFull) else due.Trap trap.BadSize) c w → ⊥
  no_malloc_store true true c w h = cc
  no_malloc_store true false c w h = cc
  no_malloc_store false fits c w h = cc

  no_take_store : (o : Option ℕ) (c w : ℕ) → IsStore (take_or_quiet o) c w → ⊥
  no_take_store None c w h = cc
  no_take_store (Some n) c w h = cc

  no_give_store : (o : Option (ℕ × ℕ)) (c w : ℕ) → IsStore (give_or_quiet o) c w → ⊥
  no_give_store None c w h = cc
  no_give_store (Some n) c w h = cc

  pub act_writes : (o : Option Act) (c w : ℕ) → act_at code th.top ≡ o → IsStore (act_due code s t th o) c w → Writes code s t made th c w
  act_writes None c w at h = cc
  act_writes (Some (act.Compute into v)) c w at h = absurd (no_quiet_store (work_of s.slots code.sites (pointers_of code th.top) th.top.registers v) c w h)
  act_writes (Some (act.Alloc into site None)) c w at h = cc
  act_writes (Some (act.Alloc into site (Some size))) c w at h = absurd (no_malloc_store (is_size (size_of code.sites site) (number (register th.top.registers size))) (nat_le (th.arena + cells_in (number (register th.top.registers size))) (arena_end code s t)) c w h)
  act_writes (Some (act.LoadCell into through)) c w at h = absurd (no_load_store (resolved code.sites (register th.top.registers through) (access_kind (is_pointer (pointers_of code th.top) into))) c w h)
  act_writes (Some (act.StoreCell through from)) c w at h = stores through from c w at h
  act_writes (Some act.Mark) c w at h = cc
  act_writes (Some (act.Call f arguments into)) c w at h = absurd (no_enter_store (nat_le s.limit th.count) (nat_le most_frames (length th.below + 1)) (fitted code.sites (arena_end code s t) (objects_in code f) th.arena) c w h)
  act_writes (Some (act.Library k arguments into)) c w at h = library_writes k arguments into c w at h
  act_writes (Some (act.Jump to)) c w at h = cc
  act_writes (Some (act.Branch on a b)) c w at h = cc
  act_writes (Some (act.Return value)) c w at h = return_writes value c w at h
  act_writes (Some (act.Take k)) c w at h = absurd (no_take_store (lacked code th (region_of code th.top k)) c w h)
  act_writes (Some (act.Give k)) c w at h = absurd (no_give_store (to_give code th k) c w h)
