-- What each operation's rows say, read backwards: from which states it is allowed, and what it does there.
use Rattle.std.proofs.Common.{◌≡◌, ◌≢◌, ℕ, ◌+◌, ◌-◌, ◌^◌, ◌<◌, ◌≤◌, ◌⊎◌, inl, inr, ◌==◌, nat_lt, nat_le, ◌&&◌, not, Bool, true, false, if◌then◌else◌, ℤ, pos, refl, ap}
use Rattle.std.proofs.lemmas.Bool.{and_parts, leb-true, eqb-true, eqb-false, ltb-true, ltb-false, not-true}
use Rattle.sync_objects.specs.declared.operation.Op.TheVariants as op
use Rattle.sync_objects.specs.States.{LockState, Free, HeldBy, CondState, Epoch, BarrierState, Waits, SlotState, Idle, Closed, Begun, Ended, Joined, Shut, Started, ThreadsState, Counts, HaltState, Running, Halted, Trapped, InputState, Position, OutputState, may_count}
use Rattle.sync_objects.specs.Table.{Move, NoRow, Moves, first_row, rows, done, misuse, busy, serial}

-- which of two rows fitted
either : {S : Type 0} (b : Bool) (m n : Move S) (s : S) (a : ℤ) → (if b then m else n) ≡ Moves s a → ((b ≡ true) × (m ≡ Moves s a)) ⊎ ((b ≡ false) × (n ≡ Moves s a))
either true m n s a e = inl (refl, e)
either false m n s a e = inr (refl, e)

-- the last row fitted
last : {S : Type 0} (b : Bool) (m : Move S) (s : S) (a : ℤ) → (if b then m else NoRow) ≡ Moves s a → (b ≡ true) × (m ≡ Moves s a)
last true m s a e = (refl, e)
last false m s a e = cc

held_apart : (t u : ℕ) → (u == t) ≡ false → HeldBy u ≢ HeldBy t
held_apart t u h e = let same : u ≡ t = cc in eqb-false u t h same

-- mutexes and stripes

pub lock_rows : (t : ℕ) (x s : LockState) (a : ℤ) → first_row (rows op.Lock t) x ≡ Moves s a → ((x ≡ Free) × (s ≡ HeldBy t) × (a ≡ done)) ⊎ ((x ≡ HeldBy t) × (s ≡ HeldBy t) × (a ≡ misuse))
lock_rows t Free s a e = inl (refl, cc, cc)
lock_rows t (HeldBy u) s a e = let r = last (u == t) _ s a e in let same = eqb-true u t r.0 in inr (ap HeldBy same, cc, cc)

pub try_lock_rows : (t : ℕ) (x s : LockState) (a : ℤ) → first_row (rows op.TryLock t) x ≡ Moves s a → ((x ≡ Free) × (s ≡ HeldBy t) × (a ≡ done)) ⊎ ((x ≢ Free) × (s ≡ x) × (a ≡ busy))
try_lock_rows t Free s a e = inl (refl, cc, cc)
try_lock_rows t (HeldBy u) s a e = inr ((λ f. cc), cc, cc)

pub unlock_rows : (t : ℕ) (x s : LockState) (a : ℤ) → first_row (rows op.Unlock t) x ≡ Moves s a → ((x ≡ HeldBy t) × (s ≡ Free) × (a ≡ done)) ⊎ ((x ≢ HeldBy t) × (s ≡ x) × (a ≡ misuse))
unlock_rows t Free s a e = inr ((λ f. cc), cc, cc)
unlock_rows t (HeldBy u) s a e = elim (either (u == t) _ _ s a e) [
  | inl r ↦ inl (ap HeldBy (eqb-true u t r.0), cc, cc)
  | inr r ↦ inr (held_apart t u r.0, cc, cc)
]

pub mutex_init_rows : (t : ℕ) (x s : LockState) (a : ℤ) → first_row (rows op.MutexInit t) x ≡ Moves s a → ((x ≡ Free) × (s ≡ x) × (a ≡ done)) ⊎ ((x ≢ Free) × (s ≡ x) × (a ≡ misuse))
mutex_init_rows t Free s a e = inl (refl, cc, cc)
mutex_init_rows t (HeldBy u) s a e = inr ((λ f. cc), cc, cc)

pub take_rows : (t : ℕ) (x s : LockState) (a : ℤ) → first_row (rows op.Take t) x ≡ Moves s a → (x ≡ Free) × (s ≡ HeldBy t) × (a ≡ done)
take_rows t Free s a e = (refl, cc, cc)
take_rows t (HeldBy u) s a e = cc

pub give_rows : (t : ℕ) (x s : LockState) (a : ℤ) → first_row (rows op.Give t) x ≡ Moves s a → (x ≡ HeldBy t) × (s ≡ Free) × (a ≡ done)
give_rows t Free s a e = cc
give_rows t (HeldBy u) s a e = let r = last (u == t) _ s a e in (ap HeldBy (eqb-true u t r.0), cc, cc)

-- conditions

pub enter_rows : (t epoch : ℕ) (s : CondState) (a : ℤ) → first_row (rows op.CondEnter t) (Epoch epoch) ≡ Moves s a → (s ≡ Epoch epoch) × (a ≡ pos epoch)
enter_rows t epoch s a e = (cc, cc)

pub wake_rows : (entered t epoch : ℕ) (s : CondState) (a : ℤ) → first_row (rows (op.CondWake entered) t) (Epoch epoch) ≡ Moves s a → (epoch ≢ entered) × (s ≡ Epoch epoch) × (a ≡ done)
wake_rows entered t epoch s a e = let r = last (not (epoch == entered)) _ s a e in (eqb-false epoch entered (not-true (epoch == entered) r.0), cc, cc)

pub signal_rows : (t epoch : ℕ) (s : CondState) (a : ℤ) → first_row (rows op.Signal t) (Epoch epoch) ≡ Moves s a → (s ≡ Epoch (epoch + 1)) × (a ≡ done)
signal_rows t epoch s a e = (cc, cc)

-- threads

pub draw_rows : (slots t drawn live : ℕ) (s : ThreadsState) (a : ℤ) → first_row (rows (op.Draw slots) t) (Counts drawn live) ≡ Moves s a →
    ((drawn < slots) × (s ≡ Counts (drawn + 1) (live + 1)) × (a ≡ pos drawn)) ⊎ ((drawn ≡ slots) × (s ≡ Counts drawn live) × (a ≡ done))
draw_rows slots t drawn live s a e = elim (either (nat_lt drawn slots) _ _ s a e) [
  | inl r ↦ inl (ltb-true drawn slots r.0, cc, cc)
  | inr r ↦ let q = last (drawn == slots) _ s a r.1 in inr (eqb-true drawn slots q.0, cc, cc)
]

pub leave_rows : (t drawn live : ℕ) (s : ThreadsState) (a : ℤ) → first_row (rows op.Leave t) (Counts drawn live) ≡ Moves s a → (0 < live) × (s ≡ Counts drawn (live - 1)) × (a ≡ done)
leave_rows t drawn live s a e = let r = last (nat_lt 0 live) _ s a e in (ltb-true 0 live r.0, cc, cc)

-- slots

pub start_rows : (f t : ℕ) (x s : SlotState) (a : ℤ) → first_row (rows (op.Start f) t) x ≡ Moves s a → ((x ≡ Idle) × (s ≡ Started f) × (a ≡ done)) ⊎ ((x ≡ Closed) × (s ≡ Shut) × (a ≡ done))
start_rows f t Idle s a e = inl (refl, cc, cc)
start_rows f t Closed s a e = inr (refl, cc, cc)
start_rows f t _ s a e = cc

pub begin_rows : (t : ℕ) (x s : SlotState) (a : ℤ) → first_row (rows op.Begin t) x ≡ Moves s a → (f : ℕ) × (x ≡ Started f) × (s ≡ Begun) × (a ≡ pos f)
begin_rows t (Started f) s a e = (f, refl, cc, cc)
begin_rows t _ s a e = cc

pub end_rows : (t : ℕ) (x s : SlotState) (a : ℤ) → first_row (rows op.End t) x ≡ Moves s a → (x ≡ Begun) × (s ≡ Ended) × (a ≡ done)
end_rows t Begun s a e = (refl, cc, cc)
end_rows t _ s a e = cc

pub join_rows : (t : ℕ) (x s : SlotState) (a : ℤ) → first_row (rows op.Join t) x ≡ Moves s a →
    ((x ≡ Ended) × (s ≡ Joined) × (a ≡ done)) ⊎ (((x ≡ Idle) ⊎ ((x ≡ Joined) ⊎ (x ≡ Closed))) × (s ≡ x) × (a ≡ misuse))
join_rows t Ended s a e = inl (refl, cc, cc)
join_rows t Idle s a e = inr (inl refl, cc, cc)
join_rows t Joined s a e = inr (inr (inl refl), cc, cc)
join_rows t Closed s a e = inr (inr (inr refl), cc, cc)
join_rows t _ s a e = cc

pub close_rows : (t : ℕ) (x s : SlotState) (a : ℤ) → first_row (rows op.Close t) x ≡ Moves s a → (x ≡ Idle) × (s ≡ Closed) × (a ≡ done)
close_rows t Idle s a e = (refl, cc, cc)
close_rows t _ s a e = cc

-- the halt word

pub halt_rows : (t : ℕ) (x s : HaltState) (a : ℤ) → first_row (rows op.HaltAll t) x ≡ Moves s a → (x ≡ Running) × (s ≡ Halted) × (a ≡ done)
halt_rows t Running s a e = (refl, cc, cc)
halt_rows t _ s a e = cc

pub trap_rows : (t : ℕ) (x s : HaltState) (a : ℤ) → first_row (rows op.TrapHere t) x ≡ Moves s a → (x ≡ Running) × (s ≡ Trapped) × (a ≡ done)
trap_rows t Running s a e = (refl, cc, cc)
trap_rows t _ s a e = cc

pub stop_rows : (t : ℕ) (x s : HaltState) (a : ℤ) → first_row (rows op.Stop t) x ≡ Moves s a → (x ≢ Running) × (s ≡ x) × (a ≡ done)
stop_rows t Running s a e = cc
stop_rows t Halted s a e = ((λ f. cc), cc, cc)
stop_rows t Trapped s a e = ((λ f. cc), cc, cc)

-- the input and the output

pub get_char_rows : (len t position : ℕ) (s : InputState) (a : ℤ) → first_row (rows (op.GetChar len) t) (Position position) ≡ Moves s a →
    (a ≡ pos position) × (((position < len) × (s ≡ Position (position + 1))) ⊎ ((len ≤ position) × (s ≡ Position position)))
get_char_rows len t position s a e = elim (either (nat_lt position len) _ _ s a e) [
  | inl r ↦ (cc, inl (ltb-true position len r.0, cc))
  | inr r ↦ (cc, inr (ltb-false position len r.0, cc))
]

pub print_rows : (t : ℕ) (x s : OutputState) (a : ℤ) → first_row (rows op.Print t) x ≡ Moves s a → (s ≡ x) × (a ≡ done)
print_rows t x s a e = (cc, cc)

-- barriers

pub barrier_init_rows : (n t count arrived generation : ℕ) (s : BarrierState) (a : ℤ) → first_row (rows (op.BarrierInit n) t) (Waits count arrived generation) ≡ Moves s a →
    ((1 ≤ n) × (n ≤ 16) × (arrived ≡ 0) × (s ≡ Waits n arrived generation) × (a ≡ done)) ⊎ ((s ≡ Waits count arrived generation) × (a ≡ misuse))
barrier_init_rows n t count arrived generation s a e = elim (either (may_count n (Waits count arrived generation)) _ _ s a e) [
  | inl r ↦ let q = and_parts (nat_le 1 n && nat_le n 16) (arrived == 0) r.0 in let p = and_parts (nat_le 1 n) (nat_le n 16) q.0 in
      inl (leb-true 1 n p.0, leb-true n 16 p.1, eqb-true arrived 0 q.1, cc, cc)
  | inr r ↦ inr (cc, cc)
]

pub arrive_rows : (t count arrived generation : ℕ) (s : BarrierState) (a : ℤ) → first_row (rows op.Arrive t) (Waits count arrived generation) ≡ Moves s a →
    ((s ≡ Waits count arrived generation) × (a ≡ misuse)) ⊎
    (((arrived + 1 ≡ count) × (s ≡ Waits count 0 (generation + 1)) × (a ≡ serial)) ⊎
    ((arrived + 1 ≢ count) × (s ≡ Waits count (arrived + 1) generation) × (a ≡ pos generation)))
arrive_rows t count arrived generation s a e = elim (either (count == 0) _ _ s a e) [
  | inl r ↦ inl (cc, cc)
  | inr r ↦ elim (either ((arrived + 1 == count) && (generation == 2 ^ 22 - 1)) _ _ s a r.1) [
    | inl q ↦ inl (cc, cc)
    | inr q ↦ elim (either (arrived + 1 == count) _ _ s a q.1) [
      | inl p ↦ inr (inl (eqb-true (arrived + 1) count p.0, cc, cc))
      | inr p ↦ inr (inr (eqb-false (arrived + 1) count p.0, cc, cc))
    ]
  ]
]

pub pass_rows : (passed t count arrived generation : ℕ) (s : BarrierState) (a : ℤ) → first_row (rows (op.Pass passed) t) (Waits count arrived generation) ≡ Moves s a →
    (generation ≢ passed) × (s ≡ Waits count arrived generation) × (a ≡ done)
pass_rows passed t count arrived generation s a e = let r = last (not (generation == passed)) _ s a e in (eqb-false generation passed (not-true (generation == passed) r.0), cc, cc)
