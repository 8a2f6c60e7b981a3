-- In a library call of which some events are made, what the others name is there: each event that was made asked for it.
use Rattle.std.proofs.Common.{◌≡◌, ℕ, zero, suc, ◌+◌, ◌^◌, ◌≤◌, ◌⊎◌, ⊎_elim, ◌==◌, Bool, true, false, if◌then◌else◌, not, ℤ, pos, negsuc, List, refl, ap, ◌∙◌, subst, arith, nat_le, nat_lt}
use Rattle.std.specs.Prelude.{◌&&◌, ◌||◌, Result, Ok, Err}
use mir.Syntax.{w64}
use Rattle.std.proofs.lemmas.Bool.{and_parts, and_from, or_left, or_right, lt-ltb, ltb-true, eqb-true}
use Rattle.std.proofs.lemmas.Int.{to_z-of_z}
use Rattle.rr_base.specs.declared.trap.Trap.{Trap}
use Rattle.rr_base.specs.declared.trap.Trap.TheVariants as trap
use Rattle.rr_base.specs.declared.layout.CellKind.{CellKind}
use Rattle.rr_base.specs.declared.layout.CellKind.TheVariants as cell
use Rattle.rr_base.specs.declared.layout.Site.{Site}
use Rattle.sync_objects.specs.declared.operation.Op.{Op}
use Rattle.sync_objects.specs.declared.operation.Op.TheVariants as op
use Rattle.sync_objects.specs.declared.object.ObjId.TheVariants as object
use Rattle.word_semantics.specs.Library.{Caller, argument, is_misuse, is_serial, slot_in, at_cell, cell_of, is_joinable, join_thread_due, wait_due_at, library_due, library_onward, create_onward, wait_onward}
use Rattle.word_semantics.specs.Cells.{result_cell}
use Rattle.word_semantics.specs.Pointers.{resolved}
use Rattle.word_semantics.specs.Values.{number, word, fits}
use Rattle.word_semantics.specs.declared.event.Due.{Due}
use Rattle.word_semantics.specs.declared.event.Due.TheVariants as due
use Rattle.word_semantics.specs.declared.event.Onward.{Onward}
use Rattle.word_semantics.specs.declared.event.Onward.TheVariants as onward
use Rattle.word_semantics.specs.declared.library_call.LibraryCall.{LibraryCall}
use Rattle.word_semantics.specs.declared.library_call.LibraryCall.TheVariants as call
use Rattle.snapshots.specs.Conditions.{is_below, is_ok, leads, join_fits, call_goes_on}

-- ---- answers

-- what the table answers to the operations whose answers are kept: a thread's number or 0, an epoch, and to one that comes to a
-- barrier a misuse, that it was the last, or a generation
abbrev pub OperationAnswers : Op → ℤ → Type 0
OperationAnswers (op.Draw n) answer = (answer ≡ pos 0) ⊎ (is_below n answer ≡ true)
OperationAnswers op.CondEnter answer = is_below (2 ^ 32) answer ≡ true
OperationAnswers op.Arrive answer = (is_misuse answer || (is_serial answer || is_below (2 ^ 22) answer)) ≡ true
OperationAnswers _ answer = Unit {0}

-- the answer to what is due, which is no trap
abbrev pub Answers : Due → ℤ → Type 0
Answers (due.Operate o obj) answer = OperationAnswers o answer
Answers (due.Trap kind) answer = ⊥
Answers _ answer = Unit {0}

-- where something comes at a cell, the cell is there
at_there : (r : Result ℕ Trap) (comes : ℕ → Due) (answer : ℤ) → Answers (at_cell r comes) answer → (is_ok r ≡ true) × (c : ℕ) × Answers (comes c) answer
at_there (Ok c) comes answer h = (refl, c, h)
at_there (Err t) comes answer h = absurd h

-- ---- numbers

-- how far it is from 0
abbrev size : ℤ → ℕ
size (pos n) = n
size (negsuc n) = suc n

number_word : (z : ℤ) → fits z ≡ true → number (word z) ≡ z
number_word (pos n) h = to_z-of_z w64 (pos n) (record { sfits = ltb-true n (2 ^ 63) h })
number_word (negsuc n) h = to_z-of_z w64 (negsuc n) (record { sfits = ltb-true n (2 ^ 63) h })

below_number : (bound : ℕ) (z : ℤ) → bound ≤ 2 ^ 63 → is_below bound z ≡ true → is_below bound (number (word z)) ≡ true
below_number bound (pos n) few h =
    let lt = ltb-true n bound h in
    ap (is_below bound) (number_word (pos n) (lt-ltb n (2 ^ 63) (omega (arith, lt, few)))) ∙ h
below_number bound (negsuc n) few h = cc

misuse_number : (z : ℤ) → is_misuse z ≡ true → is_misuse (number (word z)) ≡ true
misuse_number (pos n) h = cc
misuse_number (negsuc n) h =
    let one = eqb-true n 1 h in
    ap is_misuse (number_word (negsuc n) (lt-ltb n (2 ^ 63) (omega (arith, one)))) ∙ h

serial_number : (z : ℤ) → is_serial z ≡ true → is_serial (number (word z)) ≡ true
serial_number (pos n) h = cc
serial_number (negsuc n) h =
    let none = eqb-true n 0 h in
    ap is_serial (number_word (negsuc n) (lt-ltb n (2 ^ 63) (omega (arith, none)))) ∙ h

-- one part or the other, each of which says as much of another number
or_as : (a b c d : Bool) → (a ≡ true → c ≡ true) → (b ≡ true → d ≡ true) → (a || b) ≡ true → (c || d) ≡ true
or_as true b c d f g h = or_left c d (f refl)
or_as false b c d f g h = or_right c d (g h)

and_as : (a b c d : Bool) → (a ≡ true → c ≡ true) → (b ≡ true → d ≡ true) → (a && b) ≡ true → (c && d) ≡ true
and_as a b c d f g h = let p = and_parts a b h in and_from c d (f p.0) (g p.1)

module _ (sites : List Site) (slots : ℕ) (words : List ℕ) where
  -- ---- a kept answer as its word shows it

  join_shown : (made : ℕ) (z : ℤ) → join_fits sites slots words made z ≡ true → join_fits sites slots words made (number (word z)) ≡ true
  join_shown zero z h = h
  join_shown (suc zero) z h =
      or_as (is_misuse z) (is_below slots (number (argument words 0)) && leads sites words 1 cell.Pointer) (is_misuse (number (word z))) (is_below slots (number (argument words 0)) && leads sites words 1 cell.Pointer)
      (misuse_number z) (λ k. k) h
  join_shown (suc (suc n)) z h = h

  pub shown : slots ≤ 16 → (c : LibraryCall) (made : ℕ) (z : ℤ) → call_goes_on sites slots c words made z ≡ true → call_goes_on sites slots c words made (number (word z)) ≡ true
  shown few (call.Create f) made z h =
      and_as (is_below slots z) (nat_le 3 made || leads sites words 0 cell.Whole) (is_below slots (number (word z))) (nat_le 3 made || leads sites words 0 cell.Whole)
      (below_number slots z (omega (arith, few))) (λ k. k) h
  shown few call.Join made z h = join_shown made z h
  shown few call.CondWait made z h =
      or_as ((made == 2) && is_misuse z) ((nat_le 3 made || (leads sites words 0 cell.Cond && is_below (2 ^ 32) z)) && leads sites words 1 cell.Mutex)
      ((made == 2) && is_misuse (number (word z))) ((nat_le 3 made || (leads sites words 0 cell.Cond && is_below (2 ^ 32) (number (word z)))) && leads sites words 1 cell.Mutex)
      (and_as (made == 2) (is_misuse z) (made == 2) (is_misuse (number (word z))) (λ k. k) (misuse_number z))
      (and_as (nat_le 3 made || (leads sites words 0 cell.Cond && is_below (2 ^ 32) z)) (leads sites words 1 cell.Mutex) (nat_le 3 made || (leads sites words 0 cell.Cond && is_below (2 ^ 32) (number (word z)))) (leads sites words 1 cell.Mutex)
      (or_as (nat_le 3 made) (leads sites words 0 cell.Cond && is_below (2 ^ 32) z) (nat_le 3 made) (leads sites words 0 cell.Cond && is_below (2 ^ 32) (number (word z)))
      (λ k. k)
      (and_as (leads sites words 0 cell.Cond) (is_below (2 ^ 32) z) (leads sites words 0 cell.Cond) (is_below (2 ^ 32) (number (word z))) (λ k. k) (below_number (2 ^ 32) z (omega arith))))
      (λ k. k))
      h
  shown few call.BarrierWait made z h =
      or_as (is_misuse z) (is_serial z || (leads sites words 0 cell.Barrier && is_below (2 ^ 22) z)) (is_misuse (number (word z))) (is_serial (number (word z)) || (leads sites words 0 cell.Barrier && is_below (2 ^ 22) (number (word z))))
      (misuse_number z)
      (or_as (is_serial z) (leads sites words 0 cell.Barrier && is_below (2 ^ 22) z) (is_serial (number (word z))) (leads sites words 0 cell.Barrier && is_below (2 ^ 22) (number (word z)))
      (serial_number z)
      (and_as (leads sites words 0 cell.Barrier) (is_below (2 ^ 22) z) (leads sites words 0 cell.Barrier) (is_below (2 ^ 22) (number (word z))) (λ k. k) (below_number (2 ^ 22) z (omega arith))))
      h
  shown few _ made z h = refl

  -- ---- one event more

  -- the call goes on after so many events, if any are made
  abbrev pub Goes : LibraryCall → ℕ → ℤ → Type 0
  Goes c made z = (made ≡ 0) ⊎ (call_goes_on sites slots c words made z ≡ true)

  some_made : (c : LibraryCall) (n : ℕ) (z : ℤ) → Goes c (suc n) z → call_goes_on sites slots c words (suc n) z ≡ true
  some_made c n z h = ⊎_elim (λ e. absurd (omega (arith, e))) (λ e. e) h

  -- what the event leads to leaves the call at this number, where that goes on
  abbrev pub Stays : LibraryCall → ℕ → Onward → Type 0
  Stays c made (onward.Stays z) = call_goes_on sites slots c words made z ≡ true
  Stays c made _ = Unit {0}

  module _ (w : Caller) (of_sites : w.sites ≡ sites) (of_slots : w.setup.slots ≡ slots) where
    there : (k : ℕ) (want : CellKind) → is_ok (cell_of w words k want) ≡ true → leads sites words k want ≡ true
    there k want h = subst (λ (z : List Site). is_ok (resolved z (argument words k) want) ≡ true) of_sites h

    -- pthread_create

    drawn : (f : ℕ) (answer : ℤ) → leads sites words 0 cell.Whole ≡ true → (answer ≡ pos 0) ⊎ (is_below w.setup.slots answer ≡ true) → Stays (call.Create f) 1 (create_onward 0 (pos 0) answer)
    drawn f (pos zero) ok h = tt
    drawn f (pos (suc n)) ok h = ⊎_elim
        (λ e. (let clash : suc n ≡ 0 = ap size e in absurd (omega (arith, clash))))
        (λ e. and_from (is_below slots (pos (suc n))) (false || leads sites words 0 cell.Whole) (subst (λ z. is_below z (pos (suc n)) ≡ true) of_slots e) ok)
        h
    drawn f (negsuc n) ok h = ⊎_elim (λ e. (let clash : suc n ≡ 0 = ap size e in absurd (omega (arith, clash)))) (λ e. cc) h

    create : (f made : ℕ) (z answer : ℤ) → Goes (call.Create f) made z → Answers (library_due w (call.Create f) words made z) answer → Stays (call.Create f) (made + 1) (library_onward w (call.Create f) words made z answer)
    create f zero z answer h a =
        let t = at_there (cell_of w words 0 cell.Whole) (λ c. due.Operate (op.Draw w.setup.slots) object.Threads) answer a in
        subst (λ o. Stays (call.Create f) 1 o) (first answer) (drawn f answer (there 0 cell.Whole t.0) t.2)
      where
        first : (b : ℤ) → create_onward 0 (pos 0) b ≡ create_onward 0 z b
        first (pos zero) = refl
        first (pos (suc n)) = refl
        first (negsuc n) = refl
    create f (suc zero) z answer h a = some_made (call.Create f) 0 z h
    create f (suc (suc zero)) z answer h a =
        let p = and_parts (is_below slots z) (false || leads sites words 0 cell.Whole) (some_made (call.Create f) 1 z h) in
        and_from (is_below slots z) true p.0 refl
    create f (suc (suc (suc n))) z answer h a = tt

    -- pthread_join

    joinable : (z answer : ℤ) → Answers (join_thread_due w z) answer → is_below slots z ≡ true
    joinable z answer a = by (is_joinable w z) refl a
      where
        small : (y : ℤ) → is_joinable w y ≡ true → is_below slots y ≡ true
        small (pos n) h = subst (λ b. nat_lt n b ≡ true) of_slots (and_parts (nat_le 1 n) (nat_lt n w.setup.slots) (and_parts (nat_le 1 n && nat_lt n w.setup.slots) (not (n == w.thread)) h).0).1
        small (negsuc n) h = cc

        by : (b : Bool) → is_joinable w z ≡ b → Answers (if b then due.Operate op.Join (object.Slot (slot_in z)) else due.Trap trap.BadThread) answer → is_below slots z ≡ true
        by true e h = small z e
        by false e h = absurd h

    join : (made : ℕ) (z answer : ℤ) → Goes call.Join made z → Answers (library_due w call.Join words made z) answer → Stays call.Join (made + 1) (library_onward w call.Join words made z answer)
    join zero z answer h a = by (argument words 1 == 0) (is_misuse answer) refl a
      where
        by : (null misused : Bool) → is_misuse answer ≡ misused → Answers (if null then join_thread_due w (number (argument words 0)) else at_cell (cell_of w words 1 cell.Pointer) (λ c. join_thread_due w (number (argument words 0)))) answer
            → Stays call.Join 1 (if misused then onward.Stays answer else (if not null then onward.Stays answer else onward.Gives 0))
        by null true e g = or_left (is_misuse answer) (is_below slots (number (argument words 0)) && leads sites words 1 cell.Pointer) e
        by true false e g = tt
        by false false e g =
            let t = at_there (cell_of w words 1 cell.Pointer) (λ c. join_thread_due w (number (argument words 0))) answer g in
            or_right (is_misuse answer) (is_below slots (number (argument words 0)) && leads sites words 1 cell.Pointer)
            (and_from (is_below slots (number (argument words 0))) (leads sites words 1 cell.Pointer) (joinable (number (argument words 0)) answer t.2) (there 1 cell.Pointer t.0))
    join (suc zero) z answer h a = by (is_misuse z) a (some_made call.Join 0 z h)
      where
        by : (b : Bool) → Answers (if b then due.Trap trap.BadThread else due.Load (result_cell (slot_in (number (argument words 0))))) answer → (b || (is_below slots (number (argument words 0)) && leads sites words 1 cell.Pointer)) ≡ true → leads sites words 1 cell.Pointer ≡ true
        by true g k = absurd g
        by false g k = (and_parts (is_below slots (number (argument words 0))) (leads sites words 1 cell.Pointer) k).1
    join (suc (suc n)) z answer h a = tt

    -- pthread_cond_wait

    waits : (made : ℕ) (z answer : ℤ) → Goes call.CondWait made z → Answers (library_due w call.CondWait words made z) answer → Stays call.CondWait (made + 1) (library_onward w call.CondWait words made z answer)
    waits made z answer h a =
        let c = at_there (cell_of w words 0 cell.Cond) (λ c. at_cell (cell_of w words 1 cell.Mutex) (λ m. wait_due_at c m made z)) answer a in
        let m = at_there (cell_of w words 1 cell.Mutex) (λ m. wait_due_at c.1 m made z) answer c.2 in
        by made h c.1 m.1 m.2 (there 0 cell.Cond c.0) (there 1 cell.Mutex m.0)
      where
        by : (n : ℕ) → Goes call.CondWait n z → (c m : ℕ) → Answers (wait_due_at c m n z) answer → leads sites words 0 cell.Cond ≡ true → leads sites words 1 cell.Mutex ≡ true → Stays call.CondWait (n + 1) (wait_onward n z answer)
        by zero g c m e cond mutex =
            and_from (leads sites words 0 cell.Cond && is_below (2 ^ 32) answer) (leads sites words 1 cell.Mutex) (and_from (leads sites words 0 cell.Cond) (is_below (2 ^ 32) answer) cond e) mutex
        by (suc zero) g c m e cond mutex = unlocked (is_misuse answer) refl
          where
            unlocked : (b : Bool) → is_misuse answer ≡ b → Stays call.CondWait 2 (if b then onward.Stays answer else onward.Stays z)
            unlocked true misused = or_left (is_misuse answer) ((leads sites words 0 cell.Cond && is_below (2 ^ 32) answer) && leads sites words 1 cell.Mutex) misused
            unlocked false fine = or_right (is_misuse z) ((leads sites words 0 cell.Cond && is_below (2 ^ 32) z) && leads sites words 1 cell.Mutex) (some_made call.CondWait 0 z g)
        by (suc (suc zero)) g c m e cond mutex = mutex
        by (suc (suc (suc n))) g c m e cond mutex = tt

    -- pthread_barrier_wait

    barrier : (made : ℕ) (z answer : ℤ) → Answers (library_due w call.BarrierWait words made z) answer → Stays call.BarrierWait (made + 1) (library_onward w call.BarrierWait words made z answer)
    barrier zero z answer a =
        let t = at_there (cell_of w words 0 cell.Barrier) (λ c. due.Operate op.Arrive (object.Barrier c)) answer a in
        came (is_serial answer) refl t.2 (there 0 cell.Barrier t.0)
      where
        came : (b : Bool) → is_serial answer ≡ b → (is_misuse answer || (is_serial answer || is_below (2 ^ 22) answer)) ≡ true → leads sites words 0 cell.Barrier ≡ true → Stays call.BarrierWait 1 (if b then onward.Gives (word answer) else onward.Stays answer)
        came true e g ok = tt
        came false e g ok =
            or_as (is_misuse answer) (is_serial answer || is_below (2 ^ 22) answer) (is_misuse answer) (is_serial answer || (leads sites words 0 cell.Barrier && is_below (2 ^ 22) answer)) (λ k. k)
            (or_as (is_serial answer) (is_below (2 ^ 22) answer) (is_serial answer) (leads sites words 0 cell.Barrier && is_below (2 ^ 22) answer) (λ k. k) (λ k. and_from (leads sites words 0 cell.Barrier) (is_below (2 ^ 22) answer) ok k))
            g
    barrier (suc n) z answer a = by (is_serial z)
      where
        by : (b : Bool) → Stays call.BarrierWait (suc n + 1) (if b then onward.Gives (word z) else onward.Gives 0)
        by true = tt
        by false = tt

    -- any call

    other : (c : LibraryCall) (made : ℕ) (o : Onward) → ((n : ℕ) (z : ℤ) → call_goes_on sites slots c words n z ≡ true) → Stays c made o
    other c made (onward.Stays z) h = h made z
    other c made (onward.Gives v) h = tt
    other c made onward.Ends h = tt

    pub stays : (c : LibraryCall) (made : ℕ) (z answer : ℤ) → Goes c made z → Answers (library_due w c words made z) answer → Stays c (made + 1) (library_onward w c words made z answer)
    stays (call.Create f) made z answer h a = create f made z answer h a
    stays call.Join made z answer h a = join made z answer h a
    stays call.CondWait made z answer h a = waits made z answer h a
    stays call.BarrierWait made z answer h a = barrier made z answer a
    stays c made z answer h a = other c (made + 1) (library_onward w c words made z answer) (λ n y. refl)
