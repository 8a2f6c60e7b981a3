-- What the states of objects name is there: threads below the slots, functions that threads may run, bytes of the input.
use Rattle.std.proofs.Common.{◌≡◌, ℕ, ◌+◌, ◌-◌, ◌*◌, ◌/◌, ◌%◌, ◌^◌, ◌<◌, ◌≤◌, ◌≢◌, ◌==◌, ◌||◌, nat_lt, not, Bool, true, false, if◌then◌else◌, length, refl, sym, ap, ◌∙◌, subst, arith}
use Rattle.std.specs.Prelude.{slice_get}
use Rattle.std.proofs.lemmas.Bool.{ltb-true, eqb-false}
use Rattle.std.proofs.lemmas.Nat.{pow_pos, pow-add, shr_below, mod_below, mul-add-lt, div-add-mod'}
use Rattle.sync_objects.specs.Setup.{SetupView}
use Rattle.sync_objects.specs.declared.kind.ObjKind.{ObjKind}
use Rattle.sync_objects.specs.declared.kind.ObjKind.TheVariants as kind
use Rattle.sync_objects.specs.declared.operation.Op.{Op}
use Rattle.sync_objects.specs.declared.operation.Op.TheVariants as op
use Rattle.sync_objects.specs.Names.{name_of, kind_of}
use Rattle.sync_objects.specs.States.{LockState, Free, HeldBy, is_free, is_held_by, RwState, Shared, reads, holds, is_unheld, Epoch, Waits, SlotState, may_count, is_idle, is_closed, is_begun, is_ended, is_joined, is_started, Idle, Closed, Begun, Ended, Joined, Shut, Started, ThreadsState, Counts, is_running, is_halted, is_trapped, InputState, Position, StateOf}
use Rattle.sync_objects.specs.Table.{Move, NoRow, Moves, first_row, rows}
use Rattle.flow_code.specs.declared.code.Code.{Code}
use Rattle.flow_code.specs.Kinds.{may_start}

-- ---- the bit of a thread among the readers

even_below : (q half : ℕ) → q < half * 2 → q % 2 ≢ 1 → q + 1 < half * 2
even_below q half h odd = omega (arith, h, odd)

join_below : (q p m rows r : ℕ) → q + 1 < rows → m < p → q * p + m ≡ r → r + p < p * rows
join_below q p m rows r h k e = let f = mul-add-lt (q + 1) p m rows h k in omega (arith, f, e)

joins_at : (w t n r : ℕ) → w + 1 + t ≡ n → r < 2 ^ n → r / 2 ^ t % 2 ≢ 1 → r + 2 ^ t < 2 ^ n
joins_at w t n r width h odd =
    let turned : t + (w + 1) ≡ n = omega (arith, width) in
    let whole : 2 ^ t * 2 ^ (w + 1) ≡ 2 ^ n = sym (pow-add 2 t (w + 1)) ∙ ap (λ z. 2 ^ z) turned in
    let doubled : 2 ^ (w + 1) ≡ 2 ^ w * 2 = pow-add 2 w 1 in
    let below : r / 2 ^ t < 2 ^ w * 2 = subst (λ z. r / 2 ^ t < z) doubled (shr_below r (w + 1) t (subst (λ z. r < 2 ^ z) (sym width) h)) in
    let next : r / 2 ^ t + 1 < 2 ^ (w + 1) = subst (λ z. r / 2 ^ t + 1 < z) (sym doubled) (even_below (r / 2 ^ t) (2 ^ w) below odd) in
    subst (λ z. r + 2 ^ t < z) whole (join_below (r / 2 ^ t) (2 ^ t) (r % 2 ^ t) (2 ^ (w + 1)) r next (mod_below r (2 ^ t) (pow_pos t)) (div-add-mod' r (2 ^ t)))

joins_readers : (t n r : ℕ) → t < n → r < 2 ^ n → (r / 2 ^ t % 2 == 1) ≡ false → r + 2 ^ t < 2 ^ n
joins_readers t n r small h e = joins_at (n - 1 - t) t n r (omega (arith, small)) h (eqb-false (r / 2 ^ t % 2) 1 e)

lessened : (b : Bool) (r k n : ℕ) → r < n → (if b then r - k else r) < n
lessened true r k n h = omega arith
lessened false r k n h = h

left_false : (a b : Bool) → (a || b) ≡ false → a ≡ false
left_false true b e = cc
left_false false b e = refl

module _ (code : Code) (s : SetupView) where
  abbrev pub HolderFits : LockState → Type 0
  HolderFits Free = Unit {0}
  HolderFits (HeldBy t) = t < s.slots

  abbrev pub RwFits : RwState → Type 0
  RwFits (Shared r w) = (r < 2 ^ s.slots) × HolderFits w

  abbrev pub SlotFits : SlotState → Type 0
  SlotFits Idle = Unit {0}
  SlotFits Closed = Unit {0}
  SlotFits Begun = Unit {0}
  SlotFits Ended = Unit {0}
  SlotFits Joined = Unit {0}
  SlotFits Shut = Unit {0}
  SlotFits (Started f) = may_start (slice_get code.functions f) ≡ true

  abbrev pub ThreadsFit : ThreadsState → Type 0
  ThreadsFit (Counts d l) = d ≤ s.slots

  abbrev pub InputFits : InputState → Type 0
  InputFits (Position p) = p ≤ length s.input

  -- what the state names is there
  abbrev pub StateFits : (k : ObjKind) → StateOf k → Type 0
  StateFits kind.Mutex x = HolderFits x
  StateFits kind.Cond x = Unit {0}
  StateFits kind.Barrier x = Unit {0}
  StateFits kind.Rw x = RwFits x
  StateFits kind.Weak x = HolderFits x
  StateFits kind.Slot x = SlotFits x
  StateFits kind.Threads x = ThreadsFit x
  StateFits kind.Halt x = Unit {0}
  StateFits kind.Input x = InputFits x
  StateFits kind.Output x = Unit {0}

  -- what the operation carries is what the machine has
  abbrev pub Carries : Op → Type 0
  Carries (op.Draw n) = n ≡ s.slots
  Carries (op.Start f) = may_start (slice_get code.functions f) ≡ true
  Carries (op.GetChar n) = n ≡ length s.input
  Carries _ = Unit {0}

  abbrev pub MoveFits : (k : ObjKind) → Move (StateOf k) → Type 0
  MoveFits k NoRow = Unit {0}
  MoveFits k (Moves x answer) = StateFits k x

  either : (k : ObjKind) (b : Bool) (x y : Move (StateOf k)) → (b ≡ true → MoveFits k x) → (b ≡ false → MoveFits k y) → MoveFits k (if b then x else y)
  either k true x y h g = h refl
  either k false x y h g = g refl

  freed : (b : Bool) (x : LockState) → HolderFits x → HolderFits (if b then Free else x)
  freed true x h = tt
  freed false x h = h

  any_barrier : (m : Move (StateOf kind.Barrier)) → MoveFits kind.Barrier m
  any_barrier NoRow = tt
  any_barrier (Moves x answer) = tt

  -- each row that fits such a state leaves such a one
  pub row_fits : (o : Op) (t : ℕ) (x : StateOf (kind_of (name_of o))) → t < s.slots → Carries o → StateFits (kind_of (name_of o)) x → MoveFits (kind_of (name_of o)) (first_row (rows o t) x)
  row_fits op.Lock t Free small carries h = small
  row_fits op.Lock t (HeldBy u) small carries h = either kind.Mutex (u == t) _ _ (λ _. h) (λ _. tt)
  row_fits op.TryLock t Free small carries h = small
  row_fits op.TryLock t (HeldBy u) small carries h = h
  row_fits op.Unlock t Free small carries h = tt
  row_fits op.Unlock t (HeldBy u) small carries h = either kind.Mutex (u == t) _ _ (λ _. tt) (λ _. h)
  row_fits op.MutexInit t Free small carries h = tt
  row_fits op.MutexInit t (HeldBy u) small carries h = h
  row_fits op.CondEnter t (Epoch e) small carries h = tt
  row_fits (op.CondWake epoch) t (Epoch e) small carries h = either kind.Cond (not (e == epoch)) _ _ (λ _. tt) (λ _. tt)
  row_fits op.Signal t (Epoch e) small carries h = tt
  row_fits (op.BarrierInit n) t (Waits c a g) small carries h = either kind.Barrier (may_count n (Waits c a g)) _ _ (λ _. tt) (λ _. tt)
  row_fits op.Arrive t (Waits c a g) small carries h = any_barrier (first_row (rows op.Arrive t) (Waits c a g))
  row_fits (op.Pass generation) t (Waits c a g) small carries h = either kind.Barrier (not (g == generation)) _ _ (λ _. tt) (λ _. tt)
  row_fits op.RdLock t (Shared r w) small carries h =
      either kind.Rw (holds t (Shared r w)) _ _
      (λ _. h)
      (λ e. either kind.Rw (is_free w) _ _ (λ _. (joins_readers t s.slots r small h.0 (left_false (reads t (Shared r w)) (is_held_by t w) e), h.1)) (λ _. tt))
  row_fits op.WrLock t (Shared r w) small carries h =
      either kind.Rw (holds t (Shared r w)) _ _
      (λ _. h)
      (λ _. either kind.Rw (is_unheld (Shared r w)) _ _ (λ _. (h.0, small)) (λ _. tt))
  row_fits op.RwUnlock t (Shared r w) small carries h =
      either kind.Rw (holds t (Shared r w)) _ _
      (λ _. (lessened (reads t (Shared r w)) r (2 ^ t) (2 ^ s.slots) h.0, freed (is_held_by t w) w h.1))
      (λ _. h)
  row_fits op.RwInit t (Shared r w) small carries h = either kind.Rw (is_unheld (Shared r w)) _ _ (λ _. h) (λ _. h)
  row_fits op.Take t Free small carries h = small
  row_fits op.Take t (HeldBy u) small carries h = tt
  row_fits op.Retake t Free small carries h = small
  row_fits op.Retake t (HeldBy u) small carries h = tt
  row_fits op.Give t Free small carries h = tt
  row_fits op.Give t (HeldBy u) small carries h = either kind.Weak (u == t) _ _ (λ _. tt) (λ _. tt)
  row_fits op.Revoke t Free small carries h = tt
  row_fits op.Revoke t (HeldBy u) small carries h = either kind.Weak (u == t) _ _ (λ _. tt) (λ _. tt)
  row_fits (op.Draw n) t (Counts d l) small carries h = either kind.Threads (nat_lt d n) _ _ (λ e. let lt = ltb-true d n e in omega (arith, lt, carries)) (λ _. either kind.Threads (d == n) _ _ (λ _. h) (λ _. tt))
  row_fits (op.Start f) t Idle small carries h = carries
  row_fits (op.Start f) t Closed small carries h = tt
  row_fits (op.Start f) t Begun small carries h = tt
  row_fits (op.Start f) t Ended small carries h = tt
  row_fits (op.Start f) t Joined small carries h = tt
  row_fits (op.Start f) t Shut small carries h = tt
  row_fits (op.Start f) t (Started g) small carries h = tt
  row_fits op.Begin t x small carries h = either kind.Slot (is_started x) _ _ (λ _. tt) (λ _. tt)
  row_fits op.End t x small carries h = either kind.Slot (is_begun x) _ _ (λ _. tt) (λ _. tt)
  row_fits op.Join t x small carries h = either kind.Slot (is_ended x) _ _ (λ _. tt) (λ _. either kind.Slot (is_idle x || is_joined x || is_closed x) _ _ (λ _. h) (λ _. tt))
  row_fits op.Close t x small carries h = either kind.Slot (is_idle x) _ _ (λ _. tt) (λ _. tt)
  row_fits op.Leave t (Counts d l) small carries h = either kind.Threads (nat_lt 0 l) _ _ (λ _. h) (λ _. tt)
  row_fits op.HaltAll t x small carries h = either kind.Halt (is_running x) _ _ (λ _. tt) (λ _. tt)
  row_fits op.TrapHere t x small carries h = either kind.Halt (is_running x) _ _ (λ _. tt) (λ _. tt)
  row_fits op.Stop t x small carries h = either kind.Halt (is_halted x || is_trapped x) _ _ (λ _. tt) (λ _. tt)
  row_fits (op.GetChar n) t (Position p) small carries h = either kind.Input (nat_lt p n) _ _ (λ e. let lt = ltb-true p n e in omega (arith, lt, carries)) (λ _. h)
  row_fits op.Print t x small carries h = tt
