-- What an operation by the table makes of who holds a mutex or a read-write lock is what the replay of a log makes of it.
use Rattle.std.proofs.Common.{◌≡◌, ◌≢◌, ℕ, ◌+◌, ◌-◌, ◌*◌, ◌/◌, ◌%◌, ◌^◌, ◌<◌, ◌==◌, ◌||◌, Bool, true, false, if◌then◌else◌, Option, Some, None, inl, inr, ⊎_elim, refl, sym, ap, subst, ◌∙◌, ℤ, pos, arith}
use Rattle.std.proofs.lemmas.Bool.{true≢false, cond-true, cond-false, eqb-true, eqb-false, eq-eqb, ne_eqb}
use Rattle.std.proofs.lemmas.Nat.{pow_pos, mod_below, div-add-mod', div-mul-add}
use Rattle.sync_objects.specs.Names.{name_of, kind_of}
use Rattle.sync_objects.specs.Packing.{shown, lock_of, rw_of}
use Rattle.sync_objects.specs.States.{LockState, Free, HeldBy, is_held_by, RwState, Shared, reads, writes, holds, has_no_writer, is_unheld, read_too, written_by, let_go_by}
use Rattle.sync_objects.specs.Table.{Move, NoRow, Moves, first_row, rows, done, misuse}
use Rattle.sync_objects.specs.Words.{state_of}
use Rattle.sync_objects.specs.declared.kind.ObjKind.TheVariants as kind
use Rattle.sync_objects.specs.declared.mode.Mode.{Mode}
use Rattle.sync_objects.specs.declared.mode.Mode.TheVariants.{Read, Write}
use Rattle.sync_objects.specs.declared.operation.Op.{Op}
use Rattle.sync_objects.specs.declared.operation.Op.TheVariants as op
use Rattle.sync_objects.specs.declared.operation.OpName.TheVariants as name
use Rattle.sync_objects.proofs.RowsOf.{lock_rows, try_lock_rows, unlock_rows, mutex_init_rows}
use Rattle.lock_ownership.proofs.RwBits.{joins_own, no_reader}
use Rattle.lock_ownership.proofs.RwMoves.{rw_in, RwMove, rw_move, others_hold}
use Rattle.chain_report.specs.Replayed.{holder_after, hold_after}

-- ---- mutexes

-- the holder that is kept as a thread or none
abbrev pub as_lock : Option ℕ → LockState
as_lock None = Free
as_lock (Some t) = HeldBy t

abbrev pub lock_in : ℕ → LockState
lock_in w = lock_of (state_of w)

same_holder : (t u : ℕ) → HeldBy t ≡ HeldBy u → t ≡ u
same_holder t u e = cc

unlocks : (t u : ℕ) (y : LockState) → (u ≡ t → y ≡ Free) → (u ≢ t → y ≡ HeldBy u) → y ≡ as_lock (if u == t then None else Some u)
unlocks t u y own other = by (u == t) refl
  where
    by : (b : Bool) → u == t ≡ b → y ≡ as_lock (if b then None else Some u)
    by true e = own (eqb-true u t e)
    by false e = other (eqb-false u t e)

pub mutex_moves : (o : Op) (t : ℕ) (answer : ℤ) (w v : ℕ) (h : Option ℕ) → kind_of (name_of o) ≡ kind.Mutex → first_row (rows o t) (shown (kind_of (name_of o)) w) ≡ Moves (shown (kind_of (name_of o)) v) answer → lock_in w ≡ as_lock h → lock_in v ≡ as_lock (holder_after (name_of o) t h)
mutex_moves op.Lock t answer w v None k e was =
    ⊎_elim
    (λ r. r.1)
    (λ r. let no : Free ≡ HeldBy t = sym was ∙ r.0 in absurd cc)
    (lock_rows t (lock_in w) (lock_in v) answer e)
mutex_moves op.Lock t answer w v (Some u) k e was =
    ⊎_elim
    (λ r. let no : HeldBy u ≡ Free = sym was ∙ r.0 in absurd cc)
    (λ r. r.1 ∙ sym r.0 ∙ was)
    (lock_rows t (lock_in w) (lock_in v) answer e)
mutex_moves op.TryLock t answer w v None k e was =
    ⊎_elim
    (λ r. r.1)
    (λ r. absurd (r.0 was))
    (try_lock_rows t (lock_in w) (lock_in v) answer e)
mutex_moves op.TryLock t answer w v (Some u) k e was =
    ⊎_elim
    (λ r. let no : HeldBy u ≡ Free = sym was ∙ r.0 in absurd cc)
    (λ r. r.1 ∙ was)
    (try_lock_rows t (lock_in w) (lock_in v) answer e)
mutex_moves op.Unlock t answer w v None k e was =
    ⊎_elim
    (λ r. let no : Free ≡ HeldBy t = sym was ∙ r.0 in absurd cc)
    (λ r. r.1 ∙ was)
    (unlock_rows t (lock_in w) (lock_in v) answer e)
mutex_moves op.Unlock t answer w v (Some u) k e was =
    ⊎_elim
    (λ r. unlocks t u (lock_in v) (λ same. r.1) (λ ne. absurd (ne (same_holder u t (sym was ∙ r.0)))))
    (λ r. unlocks t u (lock_in v) (λ same. absurd (r.0 (was ∙ ap HeldBy same))) (λ ne. r.1 ∙ was))
    (unlock_rows t (lock_in w) (lock_in v) answer e)
mutex_moves op.MutexInit t answer w v None k e was =
    ⊎_elim
    (λ r. r.1 ∙ was)
    (λ r. r.1 ∙ was)
    (mutex_init_rows t (lock_in w) (lock_in v) answer e)
mutex_moves op.MutexInit t answer w v (Some u) k e was =
    ⊎_elim
    (λ r. r.1 ∙ was)
    (λ r. r.1 ∙ was)
    (mutex_init_rows t (lock_in w) (lock_in v) answer e)
mutex_moves _ t answer w v h k e was = cc

-- a trylock of a mutex that nobody holds answers 0
pub trylock_gets : (t : ℕ) (answer : ℤ) (w v : ℕ) → first_row (rows op.TryLock t) (lock_in w) ≡ Moves (lock_in v) answer → lock_in w ≡ Free → answer ≡ pos 0
trylock_gets t answer w v e free =
    ⊎_elim
    (λ r. r.2)
    (λ r. absurd (r.0 free))
    (try_lock_rows t (lock_in w) (lock_in v) answer e)

-- ---- read-write locks

abbrev pub is_writing : Option Mode → Bool
is_writing None = false
is_writing (Some Read) = false
is_writing (Some Write) = true

abbrev pub is_held : Option Mode → Bool
is_held None = false
is_held (Some mode) = true

-- thread t holds the lock in this mode, or not at all
pub record HoldIs (t : ℕ) (x : RwState) (h : Option Mode) : Type 0 where
  pub writing : writes t x ≡ is_writing h
  pub held : holds t x ≡ is_held h

moved : {S : Type 0} (x y : S) (a b : ℤ) → Moves x a ≡ Moves y b → (y ≡ x) × (b ≡ a)
moved x y a b e = (cc, cc)

not_or : (a b : Bool) → (a || b) ≡ false → a ≡ false
not_or true b e = cc
not_or false b e = refl

-- who joins the readers reads, and doesn't write
joined : (t : ℕ) (x : RwState) → holds t x ≡ false → writes t x ≡ false → HoldIs t (read_too t x) (Some Read)
joined t (Shared r w) h n = record {
  writing = n;
  held = ap (λ b. b || is_held_by t w) (joins_own t r (not_or (r / 2 ^ t % 2 == 1) (is_held_by t w) h));
}

or_true : (b : Bool) → (b || true) ≡ true
or_true true = refl
or_true false = refl

written : (t : ℕ) (x : RwState) → HoldIs t (written_by t x) (Some Write)
written t (Shared r w) = record {
  writing = eq-eqb t t refl;
  held = ap (λ b. r / 2 ^ t % 2 == 1 || b) (eq-eqb t t refl) ∙ or_true (r / 2 ^ t % 2 == 1);
}

-- the bit of a reader that leaves is clear
cleared : (q p k : ℕ) → k < p → q % 2 ≡ 1 → (q * p + k - p) / p % 2 ≡ 0
cleared q p k lt odd =
    let one : q * p + k - p ≡ (q - 1) * p + k = less q p k (omega (arith, odd)) in
    ap (λ n. n / p % 2) one ∙ ap (λ n. n % 2) (div-mul-add (q - 1) p k lt) ∙ omega (arith, odd)
  where
    less_by : (n p k : ℕ) → (n + 1) * p + k - p ≡ n * p + k
    less_by n p k = omega arith

    less : (q p k : ℕ) → 0 < q → q * p + k - p ≡ (q - 1) * p + k
    less q p k some = let e : q ≡ (q - 1) + 1 = omega (arith, some) in ap (λ n. n * p + k - p) e ∙ less_by (q - 1) p k

left_bit : (t r : ℕ) → (r / 2 ^ t % 2 == 1) ≡ true → ((r - 2 ^ t) / 2 ^ t % 2 == 1) ≡ false
left_bit t r e =
    ap (λ n. n == 1) (ap (λ n. (n - 2 ^ t) / 2 ^ t % 2) (sym (div-add-mod' r (2 ^ t))) ∙ cleared (r / 2 ^ t) (2 ^ t) (r % 2 ^ t) (mod_below r (2 ^ t) (pow_pos t)) (eqb-true (r / 2 ^ t % 2) 1 e))

left : (t : ℕ) (x : RwState) → HoldIs t (let_go_by t x) None
left t (Shared r w) = record { writing = wrote w; held = ap (λ b. b || is_held_by t (if is_held_by t w then Free else w)) (read (r / 2 ^ t % 2 == 1) refl) ∙ wrote w }
  where
    read : (b : Bool) → (r / 2 ^ t % 2 == 1) ≡ b → ((if b then r - 2 ^ t else r) / 2 ^ t % 2 == 1) ≡ false
    read true e = left_bit t r e
    read false e = e

    wrote : (v : LockState) → is_held_by t (if is_held_by t v then Free else v) ≡ false
    wrote Free = refl
    wrote (HeldBy u) = by (u == t) refl
      where
        by : (b : Bool) → u == t ≡ b → is_held_by t (if b then Free else HeldBy u) ≡ false
        by true e = refl
        by false e = e

-- what a thread that doesn't hold it gets, and with which answer
record Reads (t : ℕ) (x y : RwState) (answer : ℤ) : Type 0 where
  after : y ≡ read_too t x
  zero_is : answer ≡ pos 0

reading : (t : ℕ) (x y : RwState) (answer : ℤ) → holds t x ≡ false → first_row (rows op.RdLock t) x ≡ Moves y answer → Reads t x y answer
reading t x y answer h e = by (has_no_writer x) (sym (cond-false (holds t x) (Moves x misuse) (if has_no_writer x then Moves (read_too t x) done else NoRow) h) ∙ e)
  where
    by : (b : Bool) → (if b then Moves (read_too t x) done else NoRow) ≡ Moves y answer → Reads t x y answer
    by true g = let r = moved (read_too t x) y done answer g in record { after = r.0; zero_is = r.1 }
    by false g = cc

record WritesAlone (t : ℕ) (x y : RwState) (answer : ℤ) : Type 0 where
  after : y ≡ written_by t x
  zero_is : answer ≡ pos 0

writing_alone : (t : ℕ) (x y : RwState) (answer : ℤ) → holds t x ≡ false → first_row (rows op.WrLock t) x ≡ Moves y answer → WritesAlone t x y answer
writing_alone t x y answer h e = by (is_unheld x) (sym (cond-false (holds t x) (Moves x misuse) (if is_unheld x then Moves (written_by t x) done else NoRow) h) ∙ e)
  where
    by : (b : Bool) → (if b then Moves (written_by t x) done else NoRow) ≡ Moves y answer → WritesAlone t x y answer
    by true g = let r = moved (written_by t x) y done answer g in record { after = r.0; zero_is = r.1 }
    by false g = cc

-- who holds it gets it no second time
stays_read : (t : ℕ) (x y : RwState) (answer : ℤ) → holds t x ≡ true → first_row (rows op.RdLock t) x ≡ Moves y answer → y ≡ x
stays_read t x y answer h e = (moved x y misuse answer (sym (cond-true (holds t x) (Moves x misuse) (if has_no_writer x then Moves (read_too t x) done else NoRow) h) ∙ e)).0

stays_written : (t : ℕ) (x y : RwState) (answer : ℤ) → holds t x ≡ true → first_row (rows op.WrLock t) x ≡ Moves y answer → y ≡ x
stays_written t x y answer h e = (moved x y misuse answer (sym (cond-true (holds t x) (Moves x misuse) (if is_unheld x then Moves (written_by t x) done else NoRow) h) ∙ e)).0

lets_go : (t : ℕ) (x y : RwState) (answer : ℤ) → holds t x ≡ true → first_row (rows op.RwUnlock t) x ≡ Moves y answer → y ≡ let_go_by t x
lets_go t x y answer h e = (moved (let_go_by t x) y done answer (sym (cond-true (holds t x) (Moves (let_go_by t x) done) (Moves x misuse) h) ∙ e)).0

keeps : (t : ℕ) (x y : RwState) (answer : ℤ) → holds t x ≡ false → first_row (rows op.RwUnlock t) x ≡ Moves y answer → y ≡ x
keeps t x y answer h e = (moved x y misuse answer (sym (cond-false (holds t x) (Moves (let_go_by t x) done) (Moves x misuse) h) ∙ e)).0

inits : (t : ℕ) (x y : RwState) (answer : ℤ) → first_row (rows op.RwInit t) x ≡ Moves y answer → y ≡ x
inits t x y answer e = by (is_unheld x) e
  where
    by : (b : Bool) → (if b then Moves x done else Moves x misuse) ≡ Moves y answer → y ≡ x
    by true g = (moved x y done answer g).0
    by false g = (moved x y misuse answer g).0

-- .. of the thread that makes the operation
pub own_moves : (o : Op) (t : ℕ) (answer : ℤ) (w v : ℕ) (h : Option Mode) → kind_of (name_of o) ≡ kind.Rw → first_row (rows o t) (shown (kind_of (name_of o)) w) ≡ Moves (shown (kind_of (name_of o)) v) answer → HoldIs t (rw_in w) h → HoldIs t (rw_in v) (hold_after (name_of o) h)
own_moves op.RdLock t answer w v None k e was = subst (λ y. HoldIs t y (Some Read)) (sym (reading t (rw_in w) (rw_in v) answer was.held e).after) (joined t (rw_in w) was.held was.writing)
own_moves op.RdLock t answer w v (Some mode) k e was = subst (λ y. HoldIs t y (Some mode)) (sym (stays_read t (rw_in w) (rw_in v) answer was.held e)) was
own_moves op.WrLock t answer w v None k e was = subst (λ y. HoldIs t y (Some Write)) (sym (writing_alone t (rw_in w) (rw_in v) answer was.held e).after) (written t (rw_in w))
own_moves op.WrLock t answer w v (Some mode) k e was = subst (λ y. HoldIs t y (Some mode)) (sym (stays_written t (rw_in w) (rw_in v) answer was.held e)) was
own_moves op.RwUnlock t answer w v None k e was = subst (λ y. HoldIs t y None) (sym (keeps t (rw_in w) (rw_in v) answer was.held e)) was
own_moves op.RwUnlock t answer w v (Some mode) k e was = subst (λ y. HoldIs t y None) (sym (lets_go t (rw_in w) (rw_in v) answer was.held e)) (left t (rw_in w))
own_moves op.RwInit t answer w v None k e was = subst (λ y. HoldIs t y None) (sym (inits t (rw_in w) (rw_in v) answer e)) was
own_moves op.RwInit t answer w v (Some mode) k e was = subst (λ y. HoldIs t y (Some mode)) (sym (inits t (rw_in w) (rw_in v) answer e)) was
own_moves _ t answer w v h k e was = cc

-- .. and of any other thread
pub others_stay : (o : Op) (t u : ℕ) (answer : ℤ) (w v : ℕ) (h : Option Mode) → kind_of (name_of o) ≡ kind.Rw → first_row (rows o t) (shown (kind_of (name_of o)) w) ≡ Moves (shown (kind_of (name_of o)) v) answer → u ≢ t → HoldIs u (rw_in w) h → HoldIs u (rw_in v) h
others_stay o t u answer w v h k e ne was =
    let m = rw_move o t answer w v k e in
    record {
      writing = others_hold (name_of o) t answer (rw_in w) (rw_in v) Write u m ne ∙ was.writing;
      held = others_hold (name_of o) t answer (rw_in w) (rw_in v) Read u m ne ∙ was.held;
    }

-- who doesn't hold it gets it with answer 0
pub rdlock_gets : (t : ℕ) (answer : ℤ) (w v : ℕ) → first_row (rows op.RdLock t) (rw_in w) ≡ Moves (rw_in v) answer → HoldIs t (rw_in w) None → answer ≡ pos 0
rdlock_gets t answer w v e was = (reading t (rw_in w) (rw_in v) answer was.held e).zero_is

pub wrlock_gets : (t : ℕ) (answer : ℤ) (w v : ℕ) → first_row (rows op.WrLock t) (rw_in w) ≡ Moves (rw_in v) answer → HoldIs t (rw_in w) None → answer ≡ pos 0
wrlock_gets t answer w v e was = (writing_alone t (rw_in w) (rw_in v) answer was.held e).zero_is

-- who holds it for reading reads
pub reads_it : (t : ℕ) (x : RwState) → HoldIs t x (Some Read) → reads t x ≡ true
reads_it t x was = by (reads t x) (writes t x) was.writing was.held
  where
    by : (a b : Bool) → b ≡ false → (a || b) ≡ true → a ≡ true
    by true b f g = refl
    by false true f g = sym f
    by false false f g = g

-- nobody holds it at the start
pub unheld : (t : ℕ) → HoldIs t (Shared 0 Free) None
unheld t = record { writing = refl; held = ap (λ b. b || false) (no_reader t) }
