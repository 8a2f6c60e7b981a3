-- What an operation does to a slot, which is the life of one thread.
use Rattle.std.proofs.Common.{◌≡◌, ℕ, inl, inr, Bool, true, false, refl, sym, ap, subst, ◌∙◌, ℤ}
use Rattle.std.proofs.lemmas.Bool.{true≢false}
use Rattle.sync_objects.specs.Setup.{SetupView}
use Rattle.sync_objects.specs.Names.{name_of, kind_of}
use Rattle.sync_objects.specs.States.{SlotState, Idle, Closed, Begun, Ended, Joined, Shut, Started}
use Rattle.sync_objects.specs.Packing.{shown, slot_of}
use Rattle.sync_objects.specs.Words.{state_of}
use Rattle.sync_objects.specs.Table.{Moves, first_row, rows, misuse}
use Rattle.sync_objects.specs.declared.kind.ObjKind.TheVariants as kind
use Rattle.sync_objects.specs.declared.operation.Op.{Op}
use Rattle.sync_objects.specs.declared.operation.Op.TheVariants as op
use Rattle.sync_objects.proofs.RowsOf.{start_rows, begin_rows, end_rows, join_rows, close_rows}
use Rattle.sync_objects.specs.declared.object.ObjId.TheVariants as object
use Rattle.flow_code.specs.declared.code.Code.{Code}
use Rattle.core_run.specs.Machine.{Told}
use Rattle.run_theory.specs.Steps.{State}
use Rattle.lock_ownership.specs.Holders.{word_of_object}

-- how far the life of thread k is, as its slot's word tells
abbrev pub life : Code → SetupView → ℕ → State Told → SlotState
life code s k st = slot_of (state_of (word_of_object code s (object.Slot k) st))

-- how a slot moves, by the operation
pub data SlotMove (o : Op) (answer : ℤ) (before after : SlotState) : Type 0 where
  starts : (f : ℕ) → o ≡ op.Start f → before ≡ Idle → after ≡ Started f → SlotMove o answer before after
  shuts : (f : ℕ) → o ≡ op.Start f → before ≡ Closed → after ≡ Shut → SlotMove o answer before after
  begins : (f : ℕ) → o ≡ op.Begin → before ≡ Started f → after ≡ Begun → SlotMove o answer before after
  ends : o ≡ op.End → before ≡ Begun → after ≡ Ended → SlotMove o answer before after
  joins : o ≡ op.Join → before ≡ Ended → after ≡ Joined → SlotMove o answer before after
  misses : o ≡ op.Join → answer ≡ misuse → after ≡ before → SlotMove o answer before after
  closes : o ≡ op.Close → before ≡ Idle → after ≡ Closed → SlotMove o answer before after

pub slot_moves : (o : Op) (t : ℕ) (answer : ℤ) (w v : ℕ) → kind_of (name_of o) ≡ kind.Slot → first_row (rows o t) (shown (kind_of (name_of o)) w) ≡ Moves (shown (kind_of (name_of o)) v) answer → SlotMove o answer (slot_of (state_of w)) (slot_of (state_of v))
slot_moves (op.Start f) t answer w v k e =
    elim (start_rows f t (slot_of (state_of w)) (slot_of (state_of v)) answer e) [
      | inl r ↦ starts f refl r.0 r.1
      | inr r ↦ shuts f refl r.0 r.1
    ]
slot_moves op.Begin t answer w v k e = let r = begin_rows t (slot_of (state_of w)) (slot_of (state_of v)) answer e in begins r.0 refl r.1 r.2
slot_moves op.End t answer w v k e = let r = end_rows t (slot_of (state_of w)) (slot_of (state_of v)) answer e in ends refl r.0 r.1
slot_moves op.Join t answer w v k e =
    elim (join_rows t (slot_of (state_of w)) (slot_of (state_of v)) answer e) [
      | inl r ↦ joins refl r.0 r.1
      | inr r ↦ misses refl r.2 r.1
    ]
slot_moves op.Close t answer w v k e = let r = close_rows t (slot_of (state_of w)) (slot_of (state_of v)) answer e in closes refl r.0 r.1
slot_moves _ t answer w v k e = cc

-- ---- how far a thread's life is

-- it hasn't begun, and may begin yet
abbrev pub waits : SlotState → Bool
waits Idle = true
waits (Started f) = true
waits _ = false

-- it never begins
abbrev pub is_shut : SlotState → Bool
is_shut Closed = true
is_shut Shut = true
is_shut _ = false

-- its start was made
abbrev pub was_started : SlotState → Bool
was_started Idle = false
was_started Closed = false
was_started Shut = false
was_started _ = true

-- it has begun
abbrev pub has_run : SlotState → Bool
has_run Begun = true
has_run Ended = true
has_run Joined = true
has_run _ = false

-- it has ended
abbrev pub is_over : SlotState → Bool
is_over Ended = true
is_over Joined = true
is_over _ = false

-- something has been done with it
abbrev pub is_used : SlotState → Bool
is_used Idle = false
is_used _ = true

-- what was once so stays so
abbrev Stays : (SlotState → Bool) → Type 0
Stays p = (o : Op) (answer : ℤ) (before after : SlotState) → SlotMove o answer before after → p before ≡ true → p after ≡ true

was : (p : SlotState → Bool) (x y : SlotState) → x ≡ y → p x ≡ true → p y ≡ true
was p x y e h = subst (λ z. p z ≡ true) e h

pub shut_stays : Stays is_shut
shut_stays o answer a b (starts f is e g) h = absurd (true≢false (sym (was is_shut a Idle e h)))
shut_stays o answer a b (shuts f is e g) h = ap is_shut g
shut_stays o answer a b (begins f is e g) h = absurd (true≢false (sym (was is_shut a (Started f) e h)))
shut_stays o answer a b (ends is e g) h = absurd (true≢false (sym (was is_shut a Begun e h)))
shut_stays o answer a b (joins is e g) h = absurd (true≢false (sym (was is_shut a Ended e h)))
shut_stays o answer a b (misses is m g) h = ap is_shut g ∙ h
shut_stays o answer a b (closes is e g) h = ap is_shut g

pub started_stays : Stays was_started
started_stays o answer a b (starts f is e g) h = ap was_started g
started_stays o answer a b (shuts f is e g) h = absurd (true≢false (sym (was was_started a Closed e h)))
started_stays o answer a b (begins f is e g) h = ap was_started g
started_stays o answer a b (ends is e g) h = ap was_started g
started_stays o answer a b (joins is e g) h = ap was_started g
started_stays o answer a b (misses is m g) h = ap was_started g ∙ h
started_stays o answer a b (closes is e g) h = absurd (true≢false (sym (was was_started a Idle e h)))

pub run_stays : Stays has_run
run_stays o answer a b (starts f is e g) h = absurd (true≢false (sym (was has_run a Idle e h)))
run_stays o answer a b (shuts f is e g) h = absurd (true≢false (sym (was has_run a Closed e h)))
run_stays o answer a b (begins f is e g) h = ap has_run g
run_stays o answer a b (ends is e g) h = ap has_run g
run_stays o answer a b (joins is e g) h = ap has_run g
run_stays o answer a b (misses is m g) h = ap has_run g ∙ h
run_stays o answer a b (closes is e g) h = absurd (true≢false (sym (was has_run a Idle e h)))

pub over_stays : Stays is_over
over_stays o answer a b (starts f is e g) h = absurd (true≢false (sym (was is_over a Idle e h)))
over_stays o answer a b (shuts f is e g) h = absurd (true≢false (sym (was is_over a Closed e h)))
over_stays o answer a b (begins f is e g) h = absurd (true≢false (sym (was is_over a (Started f) e h)))
over_stays o answer a b (ends is e g) h = absurd (true≢false (sym (was is_over a Begun e h)))
over_stays o answer a b (joins is e g) h = ap is_over g
over_stays o answer a b (misses is m g) h = ap is_over g ∙ h
over_stays o answer a b (closes is e g) h = absurd (true≢false (sym (was is_over a Idle e h)))

pub used_stays : Stays is_used
used_stays o answer a b (starts f is e g) h = ap is_used g
used_stays o answer a b (shuts f is e g) h = ap is_used g
used_stays o answer a b (begins f is e g) h = ap is_used g
used_stays o answer a b (ends is e g) h = ap is_used g
used_stays o answer a b (joins is e g) h = ap is_used g
used_stays o answer a b (misses is m g) h = ap is_used g ∙ h
used_stays o answer a b (closes is e g) h = ap is_used g
