-- Read-write locks: what the table does to a packed state.
use Rattle.std.proofs.Common.{◌≡◌, ◌≢◌, ℕ, zero, suc, ◌+◌, ◌-◌, ◌*◌, ◌/◌, ◌%◌, ◌^◌, ◌<◌, ◌≤◌, ◌==◌, ◌&&◌, ◌||◌, Bool, true, false, if◌then◌else◌, refl, sym, ap, ◌∙◌, arith, add-one}
use Rattle.std.proofs.lemmas.Bool.{and_parts, eqb-true, eq-eqb, cond-true, cond-false}
use Rattle.sync_objects.specs.declared.kind.ObjKind.TheVariants as kind
use Rattle.sync_objects.specs.declared.operation.Op.TheVariants as op
use Rattle.sync_objects.specs.States.{LockState, Free, HeldBy, is_free, is_held_by, RwState, Shared, reads, writes, holds, has_no_writer, is_unheld}
use Rattle.sync_objects.specs.Packing.{packed_lock, packed_rw, lock_of, rw_of}
use Rattle.sync_objects.specs.Moved.{moved, packed_move}
use Rattle.sync_objects.specs.Table.{NoRow, Moves, done, misuse}
use Rattle.sync_objects.proofs.Readers.{covers}

-- the two parts of a state

restored_lock : (n : ℕ) → packed_lock (lock_of n) ≡ n
restored_lock zero = refl
restored_lock (suc n) = add-one n

restored : (n : ℕ) → packed_rw (rw_of n) ≡ n
restored n = omega (arith, restored_lock (n / 65536))

free_at : (n : ℕ) → n ≡ 0 → is_free (lock_of n) ≡ true
free_at n e = ap (λ z. is_free (lock_of z)) e

held_at : (n : ℕ) → n ≢ 0 → is_free (lock_of n) ≡ false
held_at zero ne = absurd (ne refl)
held_at (suc n) ne = refl

zero_at : (n : ℕ) → is_free (lock_of n) ≡ true → n ≡ 0
zero_at zero e = refl
zero_at (suc n) e = cc

false_unless : (b : Bool) → (b ≡ true → ⊥) → b ≡ false
false_unless true h = absurd (h refl)
false_unless false h = refl

unheld_at : (n : ℕ) → n ≡ 0 → is_unheld (rw_of n) ≡ true
unheld_at n e = ap (λ z. is_unheld (rw_of z)) e

not_unheld_at : (n : ℕ) → n ≢ 0 → is_unheld (rw_of n) ≡ false
not_unheld_at n ne = false_unless (is_unheld (rw_of n)) (λ e.
    let parts = and_parts (n % 65536 == 0) (is_free (lock_of (n / 65536))) e in
    let low = eqb-true (n % 65536) 0 parts.0 in
    let high = zero_at (n / 65536) parts.1 in
    ne (omega (arith, low, high)))

-- who holds it for writing

pub writes-own : (t n : ℕ) → n / 65536 ≡ t + 1 → writes t (rw_of n) ≡ true
writes-own t n e = ap (λ z. is_held_by t (lock_of z)) (e ∙ add-one t) ∙ eq-eqb t t refl

pub writes-other : (t n : ℕ) → n / 65536 ≢ t + 1 → writes t (rw_of n) ≡ false
writes-other t n ne = by (n / 65536) ne
  where
    by : (m : ℕ) → m ≢ t + 1 → is_held_by t (lock_of m) ≡ false
    by zero h = refl
    by (suc m) h = false_unless (m == t) (λ e. let same = eqb-true m t e in h (omega (arith, same)))

pub ruleset writing = (writes-own, writes-other)

-- pthread_rwlock_rdlock

plus_kept : (n b : ℕ) → (n % 65536 + b) + 65536 * packed_lock (lock_of (n / 65536)) ≡ n + b
plus_kept n b = omega (arith, restored_lock (n / 65536))

pub holds-reads : (t : ℕ) (s : RwState) → reads t s ≡ true → holds t s ≡ true
holds-reads t s e = ap (λ b. b || writes t s) e

pub holds-writes : (t : ℕ) (s : RwState) → writes t s ≡ true → holds t s ≡ true
holds-writes t s e = by (reads t s)
  where
    by : (b : Bool) → (b || writes t s) ≡ true
    by true = refl
    by false = e

pub holds-none : (t : ℕ) (s : RwState) → reads t s ≡ false → writes t s ≡ false → holds t s ≡ false
holds-none t s e f = ap (λ b. b || writes t s) e ∙ f

pub read_misused : (t n : ℕ) → holds t (rw_of n) ≡ true → moved op.RdLock t n ≡ Moves n misuse
unfolding moved
read_misused t n h = ap (packed_move kind.Rw) (cond-true (holds t (rw_of n)) _ _ h) ∙ ap (λ z. Moves z misuse) (restored n)

pub read_done : (t n : ℕ) → holds t (rw_of n) ≡ false → n / 65536 ≡ 0 → moved op.RdLock t n ≡ Moves (n + 2 ^ t) done
unfolding moved
read_done t n h e = ap (packed_move kind.Rw) (cond-false (holds t (rw_of n)) _ _ h ∙ cond-true (is_free (lock_of (n / 65536))) _ _ (free_at (n / 65536) e)) ∙ ap (λ z. Moves z done) (plus_kept n (2 ^ t))

pub read_waits : (t n : ℕ) → holds t (rw_of n) ≡ false → n / 65536 ≢ 0 → moved op.RdLock t n ≡ NoRow
unfolding moved
read_waits t n h e = ap (packed_move kind.Rw) (cond-false (holds t (rw_of n)) _ _ h ∙ cond-false (is_free (lock_of (n / 65536))) _ _ (held_at (n / 65536) e))

pub ruleset read_locking = (holds-reads, holds-writes, holds-none, read_misused, read_done, read_waits)

-- pthread_rwlock_wrlock

pub write_misused : (t n : ℕ) → holds t (rw_of n) ≡ true → moved op.WrLock t n ≡ Moves n misuse
unfolding moved
write_misused t n h = ap (packed_move kind.Rw) (cond-true (holds t (rw_of n)) _ _ h) ∙ ap (λ z. Moves z misuse) (restored n)

pub write_done : (t n : ℕ) → holds t (rw_of n) ≡ false → n ≡ 0 → moved op.WrLock t n ≡ Moves (65536 * (t + 1)) done
unfolding moved
write_done t n h e =
    ap (packed_move kind.Rw) (cond-false (holds t (rw_of n)) _ _ h ∙ cond-true (is_unheld (rw_of n)) _ _ (unheld_at n e))
    ∙ ap (λ z. Moves z done) (let all : n % 65536 + 65536 * (t + 1) ≡ 65536 * (t + 1) = omega (arith, e) in all)

pub write_waits : (t n : ℕ) → holds t (rw_of n) ≡ false → n ≢ 0 → moved op.WrLock t n ≡ NoRow
unfolding moved
write_waits t n h e = ap (packed_move kind.Rw) (cond-false (holds t (rw_of n)) _ _ h ∙ cond-false (is_unheld (rw_of n)) _ _ (not_unheld_at n e))

pub ruleset write_locking = (holds-reads, holds-writes, holds-none, write_misused, write_done, write_waits)

-- pthread_rwlock_unlock

pub unlock_misused : (t n : ℕ) → reads t (rw_of n) ≡ false → writes t (rw_of n) ≡ false → moved op.RwUnlock t n ≡ Moves n misuse
unfolding moved
unlock_misused t n r w = ap (packed_move kind.Rw) (cond-false (holds t (rw_of n)) _ _ (holds-none t (rw_of n) r w)) ∙ ap (λ z. Moves z misuse) (restored n)

-- what is left of both parts
left_of : (r w : Bool) (n b : ℕ) → (r ≡ true → b ≤ n % 65536) →
    packed_rw (Shared (if r then n % 65536 - b else n % 65536) (if w then Free else lock_of (n / 65536))) ≡ (if w then (if r then n - b else n) % 65536 else (if r then n - b else n))
left_of true true n b h = let le = h refl in omega (arith, le)
left_of true false n b h = let le = h refl in omega (arith, le, restored_lock (n / 65536))
left_of false true n b h = omega arith
left_of false false n b h = omega (arith, restored_lock (n / 65536))

let_go : (t n : ℕ) → holds t (rw_of n) ≡ true →
    moved op.RwUnlock t n ≡ Moves (if writes t (rw_of n) then (if reads t (rw_of n) then n - 2 ^ t else n) % 65536 else (if reads t (rw_of n) then n - 2 ^ t else n)) done
unfolding moved
let_go t n h =
    ap (packed_move kind.Rw) (cond-true (holds t (rw_of n)) _ _ h)
    ∙ ap (λ z. Moves z done) (left_of (reads t (rw_of n)) (writes t (rw_of n)) n (2 ^ t) (λ e. covers t (n % 65536) e))

pub unlock_read : (t n : ℕ) → reads t (rw_of n) ≡ true → writes t (rw_of n) ≡ false → moved op.RwUnlock t n ≡ Moves (n - 2 ^ t) done
unlock_read t n r w =
    let_go t n (holds-reads t (rw_of n) r)
    ∙ ap (λ z. Moves z done) (cond-false (writes t (rw_of n)) _ _ w ∙ cond-true (reads t (rw_of n)) _ _ r)

pub unlock_written : (t n : ℕ) → reads t (rw_of n) ≡ false → writes t (rw_of n) ≡ true → moved op.RwUnlock t n ≡ Moves (n % 65536) done
unlock_written t n r w =
    let_go t n (holds-writes t (rw_of n) w)
    ∙ ap (λ z. Moves z done) (cond-true (writes t (rw_of n)) _ _ w ∙ ap (λ z. z % 65536) (cond-false (reads t (rw_of n)) _ _ r))

pub unlock_both : (t n : ℕ) → reads t (rw_of n) ≡ true → writes t (rw_of n) ≡ true → moved op.RwUnlock t n ≡ Moves ((n - 2 ^ t) % 65536) done
unlock_both t n r w =
    let_go t n (holds-reads t (rw_of n) r)
    ∙ ap (λ z. Moves z done) (cond-true (writes t (rw_of n)) _ _ w ∙ ap (λ z. z % 65536) (cond-true (reads t (rw_of n)) _ _ r))

-- a reader's bit can be taken from the state
pub has_bit : (t n : ℕ) → reads t (rw_of n) ≡ true → 2 ^ t ≤ n
has_bit t n e = let le = covers t (n % 65536) e in omega (arith, le)

pub ruleset unlocking = (unlock_misused, unlock_read, unlock_written, unlock_both, has_bit)

-- pthread_rwlock_init

pub init_done : (t n : ℕ) → n ≡ 0 → moved op.RwInit t n ≡ Moves n done
unfolding moved
init_done t n e = ap (packed_move kind.Rw) (cond-true (is_unheld (rw_of n)) _ _ (unheld_at n e)) ∙ ap (λ z. Moves z done) (restored n)

pub init_misused : (t n : ℕ) → n ≢ 0 → moved op.RwInit t n ≡ Moves n misuse
unfolding moved
init_misused t n e = ap (packed_move kind.Rw) (cond-false (is_unheld (rw_of n)) _ _ (not_unheld_at n e)) ∙ ap (λ z. Moves z misuse) (restored n)

pub ruleset initialising = (init_done, init_misused)
