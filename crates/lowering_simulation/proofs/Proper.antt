-- The events of a source's thread are loads, stores, marks, and operations other than a trap and those on stripes.
use Rattle.std.proofs.Common.{◌≡◌, ℕ, zero, suc, ◌+◌, Bool, true, false, if◌then◌else◌, nat_le, nat_eq, ◌&&◌, ◌||◌, not, ℤ, pos, List, [], ◌∷◌, Option, Some, None, Result, Ok, Err, refl, ap, length}
use Rattle.std.specs.Prelude.{slice_get}
use Rattle.std.proofs.lemmas.Bool.{true≢false}
use Rattle.sync_objects.specs.Setup.{SetupView}
use Rattle.sync_objects.specs.Names.{name_of, is_ending, is_weak}
use Rattle.sync_objects.specs.declared.object.ObjId.TheVariants as object_id
use Rattle.sync_objects.specs.declared.operation.Op.{Op}
use Rattle.sync_objects.specs.declared.operation.Op.TheVariants as op
use Rattle.rr_base.specs.declared.trap.Trap.{Trap}
use Rattle.rr_base.specs.declared.trap.Trap.TheVariants as trap
use Rattle.rr_base.specs.declared.layout.CellKind.{CellKind}
use Rattle.word_semantics.specs.declared.library_call.LibraryCall.{LibraryCall}
use Rattle.word_semantics.specs.declared.library_call.LibraryCall.TheVariants as call
use Rattle.word_semantics.specs.declared.event.Due.{Due}
use Rattle.word_semantics.specs.declared.event.Due.TheVariants as due
use Rattle.word_semantics.specs.declared.event.Action.{Action}
use Rattle.word_semantics.specs.declared.event.Action.TheVariants as action
use Rattle.word_semantics.specs.declared.event.Onward.{Onward}
use Rattle.word_semantics.specs.declared.event.Onward.TheVariants as onward
use Rattle.word_semantics.specs.Values.{number, word}
use Rattle.word_semantics.specs.Pointers.{resolved, pointer_at}
use Rattle.word_semantics.specs.Library.{Caller, count_in, piece_of, library_due, library_onward}
use Rattle.word_semantics.specs.Cells.{argument_cell, result_cell, size_of}
use Rattle.word_semantics.specs.Cells.{access_kind, is_size, cells_in}
use Rattle.word_semantics.specs.Limits.{most_frames}
use Rattle.lower_sound.proofs.Calls.{IsPlain, plain_due}
use Rattle.word_semantics.proofs.Calls.{CallOperates, goes as goes_on, ends_slot, leaves_all, CallGoes, call_goes}
use Rattle.core_tree.specs.Core as core
use Rattle.core_tree.specs.Core.{Exp, null, register, object, global, load, unary, binary, move, advance, member, between, to_pointer, to_number, copy, both, either, conditional, comma, set_register, store, change_register, change_cell, call, library, allocate, Exps, no_exp, and_exp, Statement, block, compute, branch, branch_else, while_loop, do_loop, for_loop, break_at, continue_at, gives, Statements, no_statement, and_statement, Arrival, arrives, Function, Program}
use Rattle.core_tree.specs.Runs.{Run, does, traps, ends, State, M, counted, is_free, printing, event, choose, result_at}
use Rattle.core_tree.specs.Meaning as meaning
use Rattle.core_tree.specs.Meaning.{Completion, goes, breaks, continues, returns, if_goes, if_turns, Calls, made_objects, arena_end, Callee, defined, pointed, callees, is_start, place_of, objects_of, target_of, line_of_callee, line_given, word_given, entered}

abbrev pub is_trap : Op → Bool
is_trap op.TrapHere = true
is_trap _ = false

abbrev pub IsEvent : Action → Type 0
IsEvent (action.Load c) = Unit {0}
IsEvent (action.Store c w) = Unit {0}
IsEvent action.Mark = Unit {0}
IsEvent (action.Operate o obj) = (is_trap o ≡ false) × (is_weak (name_of o) ≡ false)
IsEvent _ = ⊥

abbrev pub HasEvents : Run → Type 0
HasEvents (does a out more) = IsEvent a × ((answer : ℤ) → HasEvents (more answer))
HasEvents (traps kind line) = Unit {0}
HasEvents ends = Unit {0}

pub record Proper (r : Run) : Type 0 where
  pub has : HasEvents r

abbrev Keeps : {A : Type 0} → M A → Type 0
Keeps {A} m = (σ : State) (k : A → State → Run) → ((a : A) (σ1 : State) → Proper (k a σ1)) → Proper (m σ k)

trap_proper : (kind : Trap) (line : ℕ) → Proper (traps kind line)
trap_proper kind line = record { has = tt }

end_proper : Proper ends
end_proper = record { has = tt }

either_proper : (b : Bool) (x y : Run) → Proper x → Proper y → Proper (if b then x else y)
either_proper true x y h g = h
either_proper false x y h g = g

does_proper : (a : Action) (out : List ℕ) (more : ℤ → Run) → IsEvent a → ((z : ℤ) → Proper (more z)) → Proper (does a out more)
does_proper a out more e h = record { has = (e, λ z. (h z).has) }

printing_proper : (limit line : ℕ) (a : Action) (out : List ℕ) (σ : State) (k : ℤ → State → Run) → IsEvent a → ((z : ℤ) (σ1 : State) → Proper (k z σ1)) → Proper (printing limit line a out σ k)
printing_proper limit line a out σ k e h = either_proper (nat_le limit σ.count && not (is_free a)) (traps trap.Limit line) (does a out (λ z. k z (counted σ))) (trap_proper trap.Limit line) (does_proper a out (λ z. k z (counted σ)) e (λ z. h z (counted σ)))

event_proper : (limit line : ℕ) (a : Action) (σ : State) (k : ℤ → State → Run) → IsEvent a → ((z : ℤ) (σ1 : State) → Proper (k z σ1)) → Proper (event limit line a σ k)
event_proper limit line a σ k e h = printing_proper limit line a [] σ k e h

result_proper : (line : ℕ) (r : Result ℕ Trap) → Keeps (result_at line r)
result_proper line (Ok w) σ k h = h w σ
result_proper line (Err kind) σ k h = trap_proper kind line

choose_proper : {A : Type 0} (w : ℕ) (y n : M A) → Keeps y → Keeps n → Keeps (choose w y n)
choose_proper {A} w y n hy hn σ k h = by (nat_eq w 0)
  where
    by : (b : Bool) → Proper ((if b then n else y) σ k)
    by true = hn σ k h
    by false = hy σ k h

-- ---- calls of the library

abbrev IsEventDue : Due → Type 0
IsEventDue (due.Operate o obj) = (is_trap o ≡ false) × (is_weak (name_of o) ≡ false)
IsEventDue _ = Unit {0}

not_ending : (o : Op) → is_ending (name_of o) ≡ false → is_trap o ≡ false
not_ending op.TrapHere e = e
not_ending o e = refl

operates_event : (w : Caller) (c : LibraryCall) (ws : List ℕ) (made : ℕ) (kept answer : ℤ) (o : Op) → CallOperates w c ws made kept answer o → is_trap o ≡ false
operates_event w c ws made kept answer o (goes_on e h) = not_ending o e
operates_event w c ws made kept answer o (ends_slot e h) = ap is_trap e
operates_event w c ws made kept answer o (leaves_all e h) = ap is_trap e

-- no operation on a stripe is due in a call by itself
abbrev IsStrong : Due → Type 0
IsStrong (due.Operate o obj) = is_weak (name_of o) ≡ false
IsStrong _ = Unit {0}

plain_strong : (d : Due) → IsPlain d → IsStrong d
plain_strong (due.Operate o obj) h = by (is_ending (name_of o)) (is_weak (name_of o)) h
  where
    by : (a b : Bool) → (a || b) ≡ false → b ≡ false
    by true b e = absurd (true≢false e)
    by false b e = e
plain_strong _ h = tt

exit_strong : (w : Caller) (ws : List ℕ) (made : ℕ) (kept : ℤ) → IsStrong (library_due w call.Exit ws made kept)
exit_strong w ws zero kept = tt
exit_strong w ws (suc zero) kept = refl
exit_strong w ws (suc (suc n)) kept = refl

call_strong : (w : Caller) (c : LibraryCall) (ws : List ℕ) (made : ℕ) (kept : ℤ) → IsStrong (library_due w c ws made kept)
call_strong w call.Exit ws made kept = exit_strong w ws made kept
call_strong w c ws made kept = plain_strong (library_due w c ws made kept) (plain_due w c ws made kept tt)

event_due : (w : Caller) (c : LibraryCall) (ws : List ℕ) (made : ℕ) (kept answer : ℤ) (d : Due) → CallGoes w c ws made kept answer d → IsStrong d → IsEventDue d
event_due w c ws made kept answer due.Nothing h k = tt
event_due w c ws made kept answer due.Quiet h k = tt
event_due w c ws made kept answer (due.Load x) h k = tt
event_due w c ws made kept answer (due.Store x v) h k = tt
event_due w c ws made kept answer due.Mark h k = tt
event_due w c ws made kept answer (due.Operate o obj) h k = (operates_event w c ws made kept answer o h.2, k)
event_due w c ws made kept answer (due.Trap kind) h k = tt

module _ (p : Program) (s : SetupView) (t : ℕ) where
  by_due_proper : (line : ℕ) (piece : List ℕ) (d : Due) → IsEventDue d → Keeps (meaning.by_due p s t line piece d)
  by_due_proper line piece due.Nothing e σ k h = end_proper
  by_due_proper line piece due.Quiet e σ k h = h (pos 0) σ
  by_due_proper line piece (due.Load c) e σ k h = event_proper s.limit line (action.Load c) σ k tt h
  by_due_proper line piece (due.Store c w) e σ k h = event_proper s.limit line (action.Store c w) σ k tt h
  by_due_proper line piece due.Mark e σ k h = event_proper s.limit line action.Mark σ k tt h
  by_due_proper line piece (due.Operate o obj) e σ k h = printing_proper s.limit line (action.Operate o obj) piece σ k e h
  by_due_proper line piece (due.Trap kind) e σ k h = trap_proper kind line

  onwards_proper : (next : ℤ → M ℕ) → ((z : ℤ) → Keeps (next z)) → (o : Onward) → Keeps (meaning.onwards p s t next o)
  onwards_proper next n (onward.Stays kept) σ k h = n kept σ k h
  onwards_proper next n (onward.Gives w) σ k h = h w σ
  onwards_proper next n onward.Ends σ k h = end_proper

  library_proper : (n line : ℕ) (c : LibraryCall) (ws : List ℕ) (made : ℕ) (kept : ℤ) → Keeps (meaning.library_from p s t n line c ws made kept)
  library_proper zero line c ws made kept σ k h = end_proper
  library_proper (suc n) line c ws made kept σ k h =
      let w = meaning.caller p s t σ in
      by_due_proper line (piece_of c ws) (library_due w c ws made kept) (event_due w c ws made kept (pos 0) (library_due w c ws made kept) (call_goes w c ws made kept (pos 0)) (call_strong w c ws made kept)) σ _ (λ answer σ1.
      onwards_proper (meaning.library_from p s t n line c ws (made + 1)) (λ z. library_proper n line c ws (made + 1) z) (library_onward w c ws made kept answer) _ k h)

  -- ---- cells

  load_in_proper : (line : ℕ) (r : Result ℕ Trap) → Keeps (meaning.load_in p s t line r)
  load_in_proper line (Ok c) σ k h = event_proper s.limit line (action.Load c) σ _ tt (λ z σ1. h (word z) σ1)
  load_in_proper line (Err kind) σ k h = trap_proper kind line

  load_proper : (line pointer : ℕ) (kind : CellKind) → Keeps (meaning.load_at p s t line pointer kind)
  load_proper line pointer kind = load_in_proper line (resolved p.sites pointer kind)

  store_in_proper : (line : ℕ) (r : Result ℕ Trap) (w : ℕ) → Keeps (meaning.store_in p s t line r w)
  store_in_proper line (Ok c) w σ k h = event_proper s.limit line (action.Store c w) σ _ tt (λ z σ1. h tt σ1)
  store_in_proper line (Err kind) w σ k h = trap_proper kind line

  store_proper : (line pointer : ℕ) (kind : CellKind) (w : ℕ) → Keeps (meaning.store_at p s t line pointer kind w)
  store_proper line pointer kind w = store_in_proper line (resolved p.sites pointer kind) w

  allocated_proper : (line site : ℕ) (n : ℤ) → Keeps (meaning.allocated p s t line site n)
  allocated_proper line site n σ k h =
      let fits = nat_le (σ.arena + cells_in n) (arena_end p s t) in
      let made = k (pointer_at site σ.arena (cells_in n)) (record σ { arena = σ.arena + cells_in n }) in
      either_proper (is_size (size_of p.sites site) n) (if fits then made else traps trap.ArenaFull line) (traps trap.BadSize line)
      (either_proper fits made (traps trap.ArenaFull line) (h _ _) (trap_proper trap.ArenaFull line))
      (trap_proper trap.BadSize line)

  -- ---- expressions

  abbrev CallsKeep : Calls → Type 0
  CallsKeep calls = (f : ℕ) (ws : List ℕ) (line : ℕ) → Keeps (calls f ws line)

  module _ (calls : Calls) (keep : CallsKeep calls) where
    abbrev value : Exp → M ℕ
    value = meaning.value p s t calls

    mutual
      value_proper : (e : Exp) → Keeps (meaning.value p s t calls e)
      value_proper (core.number z at) σ k h = h (word z) σ
      value_proper (null at) σ k h = h 0 σ
      value_proper (register n pointer at) σ k h = h _ σ
      value_proper (object n at) σ k h = h _ σ
      value_proper (global address at) σ k h = h _ σ
      value_proper (load e pointer at) σ k h = value_proper e σ _ (λ w σ1. load_proper at.line w (access_kind pointer) σ1 k h)
      value_proper (unary o e at) σ k h = value_proper e σ _ (λ w σ1. result_proper at.line _ σ1 k h)
      value_proper (binary o a b at) σ k h = value_proper a σ _ (λ v σ1. value_proper b σ1 _ (λ w σ2. result_proper at.line _ σ2 k h))
      value_proper (move a b element back at) σ k h = value_proper a σ _ (λ v σ1. value_proper b σ1 _ (λ w σ2. result_proper at.line _ σ2 k h))
      value_proper (advance a b element at) σ k h = value_proper a σ _ (λ v σ1. value_proper b σ1 _ (λ w σ2. result_proper at.line _ σ2 k h))
      value_proper (member a by' at) σ k h = value_proper a σ _ (λ w σ1. result_proper at.line _ σ1 k h)
      value_proper (between a b element at) σ k h = value_proper a σ _ (λ v σ1. value_proper b σ1 _ (λ w σ2. result_proper at.line _ σ2 k h))
      value_proper (to_pointer a at) σ k h = value_proper a σ _ (λ w σ1. result_proper at.line _ σ1 k h)
      value_proper (to_number a at) σ k h = value_proper a σ _ (λ w σ1. result_proper at.line _ σ1 k h)
      value_proper (copy a at) σ k h = value_proper a σ k h
      value_proper (both a b at) σ k h = value_proper a σ _ (λ v σ1. choose_proper v _ _ (λ σ2 k2 h2. value_proper b σ2 _ (λ w σ3. h2 _ σ3)) (λ σ2 k2 h2. h2 0 σ2) σ1 k h)
      value_proper (either a b at) σ k h = value_proper a σ _ (λ v σ1. choose_proper v _ _ (λ σ2 k2 h2. h2 1 σ2) (λ σ2 k2 h2. value_proper b σ2 _ (λ w σ3. h2 _ σ3)) σ1 k h)
      value_proper (conditional a b c at) σ k h = value_proper a σ _ (λ v σ1. choose_proper v (value b) (value c) (value_proper b) (value_proper c) σ1 k h)
      value_proper (comma a b at) σ k h = value_proper a σ _ (λ v σ1. value_proper b σ1 k h)
      value_proper (set_register n a at) σ k h = value_proper a σ _ (λ w σ1. h w _)
      value_proper (store a b at) σ k h = value_proper a σ _ (λ v σ1. value_proper b σ1 _ (λ w σ2. store_proper at.line v _ w σ2 _ (λ u σ3. h w σ3)))
      value_proper (change_register n c b old at) σ k h = value_proper b σ _ (λ w σ1. result_proper at.line _ σ1 _ (λ new σ2. h _ _))
      value_proper (change_cell a loaded c b old at) σ k h =
          value_proper a σ _ (λ pointer σ1. load_proper loaded.line pointer _ σ1 _ (λ v σ2. value_proper b σ2 _ (λ w σ3. result_proper at.line _ σ3 _ (λ new σ4. store_proper at.line pointer _ new σ4 _ (λ u σ5. h _ σ5)))))
      value_proper (call f es pointer at) σ k h = values_proper es σ _ (λ ws σ1. keep f ws at.line σ1 k h)
      value_proper (library c es at) σ k h = values_proper es σ _ (λ ws σ1. library_proper 5 at.line c ws 0 (pos 0) σ1 k h)
      value_proper (allocate site a at) σ k h = value_proper a σ _ (λ w σ1. allocated_proper at.line site (number w) σ1 k h)

      values_proper : (es : Exps) → Keeps (meaning.values p s t calls es)
      values_proper no_exp σ k h = h [] σ
      values_proper (and_exp e es) σ k h = value_proper e σ _ (λ w σ1. values_proper es σ1 _ (λ ws σ2. h (w ∷ ws) σ2))

  -- ---- statements

  if_goes_proper : (f : Completion) (m : M Completion) → Keeps m → Keeps (if_goes f m)
  if_goes_proper goes m hm σ k h = hm σ k h
  if_goes_proper breaks m hm σ k h = h breaks σ
  if_goes_proper continues m hm σ k h = h continues σ
  if_goes_proper (returns w line) m hm σ k h = h (returns w line) σ

  if_turns_proper : (f : Completion) (m : M Completion) → Keeps m → Keeps (if_turns f m)
  if_turns_proper goes m hm σ k h = hm σ k h
  if_turns_proper breaks m hm σ k h = h goes σ
  if_turns_proper continues m hm σ k h = hm σ k h
  if_turns_proper (returns w line) m hm σ k h = h (returns w line) σ

  turns_proper : (n line : ℕ) (test : M ℕ) (body : M Completion) (step : M ℕ) → Keeps test → Keeps body → Keeps step → Keeps (meaning.turns p s t n line test body step)
  turns_proper zero line test body step ht hb hs σ k h = trap_proper trap.Limit line
  turns_proper (suc n) line test body step ht hb hs σ k h =
      event_proper s.limit line action.Mark σ _ tt (λ z σ1. ht σ1 _ (λ w σ2.
      choose_proper w _ _ (λ σ3 k3 h3. hb σ3 _ (λ f σ4. if_turns_proper f _ (λ σ5 k5 h5. hs σ5 _ (λ u σ6. turns_proper n line test body step ht hb hs σ6 k5 h5)) σ4 k3 h3)) (λ σ3 k3 h3. h3 goes σ3) σ2 k h))

  turns_after_proper : (n line : ℕ) (body : M Completion) (test : M ℕ) → Keeps body → Keeps test → Keeps (meaning.turns_after p s t n line body test)
  turns_after_proper zero line body test hb ht σ k h = trap_proper trap.Limit line
  turns_after_proper (suc n) line body test hb ht σ k h =
      event_proper s.limit line action.Mark σ _ tt (λ z σ1. hb σ1 _ (λ f σ2.
      if_turns_proper f _ (λ σ3 k3 h3. ht σ3 _ (λ w σ4. choose_proper w _ _ (turns_after_proper n line body test hb ht) (λ σ5 k5 h5. h5 goes σ5) σ4 k3 h3)) σ2 k h))

  module _ (calls : Calls) (keep : CallsKeep calls) where
    test_proper : (o : Option Exp) → Keeps (meaning.test_value p s t calls o)
    test_proper None σ k h = h 1 σ
    test_proper (Some e) σ k h = value_proper calls keep e σ k h

    step_proper : (o : Option Exp) → Keeps (meaning.step_value p s t calls o)
    step_proper None σ k h = h 0 σ
    step_proper (Some e) σ k h = value_proper calls keep e σ k h

    mutual
      meaning_proper : (a : Statement) → Keeps (meaning.meaning p s t calls a)
      meaning_proper (block ss) σ k h = meanings_proper ss σ k h
      meaning_proper (compute e) σ k h = value_proper calls keep e σ _ (λ w σ1. h goes σ1)
      meaning_proper (branch e a at) σ k h = value_proper calls keep e σ _ (λ w σ1. choose_proper w _ _ (meaning_proper a) (λ σ2 k2 h2. h2 goes σ2) σ1 k h)
      meaning_proper (branch_else e a b at) σ k h = value_proper calls keep e σ _ (λ w σ1. choose_proper w _ _ (meaning_proper a) (meaning_proper b) σ1 k h)
      meaning_proper (while_loop e a at) σ k h = turns_proper s.limit at.line _ _ _ (value_proper calls keep e) (meaning_proper a) (λ σ1 k1 h1. h1 0 σ1) σ k h
      meaning_proper (do_loop a e at) σ k h = turns_after_proper s.limit at.line _ _ (meaning_proper a) (value_proper calls keep e) σ k h
      meaning_proper (for_loop start test step a at) σ k h =
          meaning_proper start σ _ (λ f σ1. if_goes_proper f _ (turns_proper s.limit at.line _ _ _ (test_proper test) (meaning_proper a) (step_proper step)) σ1 k h)
      meaning_proper (break_at at) σ k h = h breaks σ
      meaning_proper (continue_at at) σ k h = h continues σ
      meaning_proper (gives None at) σ k h = h _ σ
      meaning_proper (gives (Some e) at) σ k h = value_proper calls keep e σ _ (λ w σ1. h _ σ1)

      meanings_proper : (ss : Statements) → Keeps (meaning.meanings p s t calls ss)
      meanings_proper no_statement σ k h = h goes σ
      meanings_proper (and_statement a ss) σ k h = meaning_proper a σ _ (λ f σ1. if_goes_proper f _ (meanings_proper ss) σ1 k h)

  -- ---- functions

  stored_proper : (pointers : List Bool) (arrivals : List Arrival) → Keeps (meaning.stored p s t pointers arrivals)
  stored_proper pointers [] σ k h = h tt σ
  stored_proper pointers (arrives n o at ∷ more) σ k h = store_proper at.line _ _ _ σ _ (λ u σ1. stored_proper pointers more σ1 k h)

  enter_made_proper : (ws : List ℕ) (line : ℕ) (made : Option (List ℕ × ℕ)) → Keeps (meaning.enter_made p s t ws line made)
  enter_made_proper ws line None σ k h = trap_proper trap.ArenaFull line
  enter_made_proper ws line (Some made) σ k h = does_proper action.Mark [] (λ z. k tt (entered σ ws made.0 made.1)) tt (λ z. h tt (entered σ ws made.0 made.1))

  enter_proper : (c : Callee) (ws : List ℕ) (line : ℕ) → Keeps (meaning.enter p s t c ws line)
  enter_proper c ws line σ k h =
      let made = meaning.enter_made p s t ws line (made_objects p.sites (arena_end p s t) (objects_of c) σ.arena) σ k in
      either_proper (nat_le s.limit σ.count) (traps trap.Limit line) (if nat_le most_frames σ.depth then traps trap.Depth line else made)
      (trap_proper trap.Limit line)
      (either_proper (nat_le most_frames σ.depth) (traps trap.Depth line) made (trap_proper trap.Depth line) (enter_made_proper ws line (made_objects p.sites (arena_end p s t) (objects_of c) σ.arena) σ k h))

  read_proper : (n r : ℕ) → Keeps (meaning.read_registers p s t n r)
  read_proper zero r σ k h = h [] σ
  read_proper (suc n) r σ k h = read_proper n (r + 1) σ _ (λ ws σ1. h _ σ1)

  target_proper : (calls : Calls) → CallsKeep calls → (line : ℕ) (ws : List ℕ) (o : Option ℕ) → Keeps (meaning.target_called p s t calls line ws o)
  target_proper calls keep line ws None σ k h = trap_proper trap.BadDereference line
  target_proper calls keep line ws (Some n) σ k h = keep n ws line σ _ (λ w σ1. h _ σ1)

  body_proper : (calls : Calls) → CallsKeep calls → (c : Callee) → Keeps (meaning.body_of p s t calls c)
  body_proper calls keep (pointed q) σ k h = read_proper (length q.kinds) 1 σ _ (λ ws σ1. target_proper calls keep q.place.line ws (target_of q.targets (σ.registers 0)) σ1 k h)
  body_proper calls keep (defined f) σ k h = stored_proper f.pointers f.arrivals σ _ (λ u σ1. meaning_proper calls keep f.body σ1 k h)

  called_proper : (calls : Calls) → CallsKeep calls → (o : Option Callee) (ws : List ℕ) (line : ℕ) → Keeps (meaning.called p s t calls o ws line)
  called_proper calls keep None ws line σ k h = h 0 σ
  called_proper calls keep (Some c) ws line σ k h = enter_proper c ws line σ _ (λ u σ1. body_proper calls keep c σ1 _ (λ flow σ2. h _ _))

  calls_proper : (n : ℕ) → CallsKeep (meaning.calls_of p s t n)
  calls_proper zero c ws line σ k h = trap_proper trap.Limit line
  calls_proper (suc n) c ws line σ k h = called_proper (meaning.calls_of p s t n) (calls_proper n) (slice_get (callees p) c) ws line σ k h

  -- ---- threads

  finish_proper : (b : Bool) (line w : ℕ) → Keeps (meaning.finish p s t b line w)
  finish_proper true line w σ k h = event_proper s.limit line (action.Operate op.HaltAll object_id.Halt) σ _ (refl, refl) (λ z σ1. h tt σ1)
  finish_proper false line w σ k h =
      event_proper s.limit line (action.Store (result_cell t) w) σ _ tt (λ z σ1.
      event_proper s.limit line (action.Operate op.End (object_id.Slot t)) σ1 _ (refl, refl) (λ y σ2.
      event_proper s.limit line (action.Operate op.Leave object_id.Threads) σ2 _ (refl, refl) (λ x σ3. h tt σ3)))

  first_proper : (o : Option Callee) (ws : List ℕ) → Keeps (meaning.first_function p s t o ws)
  first_proper None ws σ k h = event_proper s.limit 0 action.Mark σ _ tt (λ z σ1. h tt σ1)
  first_proper (Some c) ws σ k h =
      enter_proper c ws (place_of c).line σ _ (λ u σ1.
      body_proper (meaning.calls_of p s t s.limit) (calls_proper s.limit) c σ1 _ (λ flow σ2.
      finish_proper (is_start c) (line_given (place_of c).line flow) (word_given flow) σ2 k h))

  begun_proper : Keeps (meaning.begun p s t)
  begun_proper σ k h =
      event_proper s.limit 0 (action.Operate op.Begin (object_id.Slot t)) σ _ (refl, refl) (λ f σ1.
      event_proper s.limit (line_of_callee (slice_get (callees p) (count_in f))) (action.Load (argument_cell t)) σ1 _ tt (λ w σ2.
      first_proper (slice_get (callees p) (count_in f)) (word w ∷ []) σ2 k h))

  thread_proper : (n : ℕ) → Keeps (meaning.thread_of p s t n)
  thread_proper zero = first_proper (slice_get (callees p) (meaning.main_of p)) []
  thread_proper (suc n) = begun_proper

  pub run_proper : HasEvents (meaning.run_of p s t)
  run_proper = (thread_proper t (meaning.start p s t) (λ u σ. ends) (λ u σ. end_proper)).has
