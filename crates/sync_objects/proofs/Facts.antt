-- What operations on words do to the objects, in the words of states. What else a row says is in `RowsOf`, and `moves`
-- brings any of it to words.
use Rattle.std.proofs.Common.{◌≡◌, ◌≢◌, ℕ, zero, suc, ◌+◌, ◌-◌, ◌^◌, ◌<◌, ℤ, pos, inl, inr, sym, ap, subst, ◌∙◌, refl, arith, add-one}
use Rattle.sync_objects.specs.declared.kind.ObjKind.{ObjKind}
use Rattle.sync_objects.specs.declared.kind.ObjKind.TheVariants as kind
use Rattle.sync_objects.specs.declared.operation.Op.{Op}
use Rattle.sync_objects.specs.declared.operation.Op.TheVariants as op
use Rattle.sync_objects.specs.Names.{name_of, kind_of}
use Rattle.sync_objects.specs.States.{LockState, Free, HeldBy, StateOf}
use Rattle.sync_objects.specs.Packing.{packed, unpacked, shown, packed_lock, lock_of}
use Rattle.sync_objects.specs.Advance.{Advance, NotAllowed, Advances, after_move, advanced}
use Rattle.sync_objects.specs.Table.{NoRow, Moves, first_row, rows}
use Rattle.sync_objects.specs.Sound.{IsSoundState, IsSoundWord, IsInRange}
use Rattle.sync_objects.specs.Words.{number_of, state_of, word_of}
use Rattle.sync_objects.proofs.Packings.{number_of-word_of, state_of-word_of, unpacked-packed, packed-fits, held_parts}
use Rattle.sync_objects.proofs.RowsOf.{lock_rows, try_lock_rows, unlock_rows, mutex_init_rows, take_rows, give_rows}
use Rattle.sync_objects.proofs.Soundness.{advanced_inverse, row_is_sound, SoundMove}

-- a word made of a sound state shows it
pub shown-word_of : (k : ObjKind) (number : ℕ) (s : StateOf k) → number < 2 ^ 32 → IsSoundState k number s → shown k (word_of number (packed k s)) ≡ s
shown-word_of k number s small h = ap (unpacked k) (state_of-word_of number (packed k s) (packed-fits k number s small h)) ∙ unpacked-packed k number s h

-- on a sound word an allowed operation is a row of the table, between the states that the two words show
pub moves : (o : Op) (t word after : ℕ) (answer : ℤ) → t < 16 → IsInRange o → number_of word < 2 ^ 32 - 1 → IsSoundWord (kind_of (name_of o)) word → advanced o t word ≡ Advances after answer →
    first_row (rows o t) (shown (kind_of (name_of o)) word) ≡ Moves (shown (kind_of (name_of o)) after) answer
moves o t word after answer small range few sound e =
    let k : ObjKind = kind_of (name_of o) in
    let i = advanced_inverse o t word after answer e in
    let h = subst (SoundMove k (number_of word + 1)) i.1 (row_is_sound o t (number_of word) (shown k word) small range sound.state) in
    let s = ap (shown k) i.2 ∙ shown-word_of k (number_of word + 1) i.0 (omega arith) h in
    i.1 ∙ ap (λ z. Moves z answer) (sym s)

-- a row that fits the state which the word shows makes the operation allowed, and where none does it isn't
pub allowed : (o : Op) (t word : ℕ) (s : StateOf (kind_of (name_of o))) (answer : ℤ) → first_row (rows o t) (shown (kind_of (name_of o)) word) ≡ Moves s answer → advanced o t word ≡ Advances (word_of (number_of word + 1) (packed (kind_of (name_of o)) s)) answer
unfolding advanced
allowed o t word s answer e = ap (after_move (kind_of (name_of o)) word) e

pub not_allowed_by : (o : Op) (t word : ℕ) → first_row (rows o t) (shown (kind_of (name_of o)) word) ≡ NoRow → advanced o t word ≡ NotAllowed
unfolding advanced
not_allowed_by o t word e = ap (after_move (kind_of (name_of o)) word) e

-- who holds the mutex or the stripe of this word
abbrev pub lock_in : ℕ → LockState
lock_in word = lock_of (state_of word)

-- thread t takes the free lock
pub record Takes (t word after : ℕ) : Type 0 where
  pub before : lock_in word ≡ Free
  pub held : lock_in after ≡ HeldBy t

-- thread t frees the lock, which it held
pub record Frees (t word after : ℕ) : Type 0 where
  pub before : lock_in word ≡ HeldBy t
  pub free : lock_in after ≡ Free

-- a word that is made of a lock's state shows it
lock_shown : (number : ℕ) (s : LockState) → packed_lock s < 2 ^ 32 → lock_in (word_of number (packed_lock s)) ≡ s
lock_shown number Free h = ap lock_of (state_of-word_of number 0 h)
lock_shown number (HeldBy t) h = ap lock_of (state_of-word_of number (t + 1) h) ∙ held_parts t

lock_after : (word after : ℕ) (s r : LockState) → packed_lock r < 2 ^ 32 → s ≡ r → after ≡ word_of (number_of word + 1) (packed_lock s) → lock_in after ≡ r
lock_after word after s r h e w = ap lock_in (w ∙ ap (λ z. word_of (number_of word + 1) (packed_lock z)) e) ∙ lock_shown (number_of word + 1) r h

takes : (t word after : ℕ) (s : LockState) → t < 16 → lock_in word ≡ Free → s ≡ HeldBy t → after ≡ word_of (number_of word + 1) (packed_lock s) → Takes t word after
takes t word after s small before e w = record {
  before = before;
  held = lock_after word after s (HeldBy t) (omega arith) e w;
}

frees : (t word after : ℕ) (s : LockState) → lock_in word ≡ HeldBy t → s ≡ Free → after ≡ word_of (number_of word + 1) (packed_lock s) → Frees t word after
frees t word after s before e w = record {
  before = before;
  free = lock_after word after s Free (omega arith) e w;
}

-- a lock or a trylock that answers 0 took the mutex
pub lock_takes : (t word after : ℕ) → t < 16 → advanced op.Lock t word ≡ Advances after (pos 0) → Takes t word after
lock_takes t word after small e =
    let i = advanced_inverse op.Lock t word after (pos 0) e in
    elim (lock_rows t (lock_in word) i.0 (pos 0) i.1) [
      | inl r ↦ takes t word after i.0 small r.0 r.1 i.2
      | inr r ↦ cc
    ]

pub try_lock_takes : (t word after : ℕ) → t < 16 → advanced op.TryLock t word ≡ Advances after (pos 0) → Takes t word after
try_lock_takes t word after small e =
    let i = advanced_inverse op.TryLock t word after (pos 0) e in
    elim (try_lock_rows t (lock_in word) i.0 (pos 0) i.1) [
      | inl r ↦ takes t word after i.0 small r.0 r.1 i.2
      | inr r ↦ cc
    ]

-- an unlock that answers 0 frees the mutex, which its thread held
pub unlock_frees : (t word after : ℕ) → advanced op.Unlock t word ≡ Advances after (pos 0) → Frees t word after
unlock_frees t word after e =
    let i = advanced_inverse op.Unlock t word after (pos 0) e in
    elim (unlock_rows t (lock_in word) i.0 (pos 0) i.1) [
      | inl r ↦ frees t word after i.0 r.0 r.1 i.2
      | inr r ↦ cc
    ]

-- a take or retake takes its stripe
pub take_takes : (t word after : ℕ) (answer : ℤ) → t < 16 → advanced op.Take t word ≡ Advances after answer → Takes t word after
take_takes t word after answer small e =
    let i = advanced_inverse op.Take t word after answer e in
    let r = take_rows t (lock_in word) i.0 answer i.1 in
    takes t word after i.0 small r.0 r.1 i.2

pub retake_takes : (t word after : ℕ) (answer : ℤ) → t < 16 → advanced op.Retake t word ≡ Advances after answer → Takes t word after
retake_takes t word after answer small e =
    let i = advanced_inverse op.Retake t word after answer e in
    let r = take_rows t (lock_in word) i.0 answer i.1 in
    takes t word after i.0 small r.0 r.1 i.2

-- a give or revoke frees the stripe, which its thread held
pub give_frees : (t word after : ℕ) (answer : ℤ) → advanced op.Give t word ≡ Advances after answer → Frees t word after
give_frees t word after answer e =
    let i = advanced_inverse op.Give t word after answer e in
    let r = give_rows t (lock_in word) i.0 answer i.1 in
    frees t word after i.0 r.0 r.1 i.2

pub revoke_frees : (t word after : ℕ) (answer : ℤ) → advanced op.Revoke t word ≡ Advances after answer → Frees t word after
revoke_frees t word after answer e =
    let i = advanced_inverse op.Revoke t word after answer e in
    let r = give_rows t (lock_in word) i.0 answer i.1 in
    frees t word after i.0 r.0 r.1 i.2

-- what stays held

lock_number : (n t : ℕ) → lock_of n ≡ HeldBy t → n ≡ t + 1
lock_number zero t e = cc
lock_number (suc m) t e = let same : m ≡ t = cc in ap suc same ∙ sym (add-one t)

same_lock : (word after t : ℕ) (s : LockState) → lock_in word ≡ HeldBy t → s ≡ lock_in word → after ≡ word_of (number_of word + 1) (packed_lock s) → lock_in after ≡ HeldBy t
same_lock word after t s held e w =
    let n = lock_number (state_of word) t held in
    lock_after word after s (HeldBy t) (omega arith) (e ∙ held) w

-- a mutex stays held until its holder unlocks it
pub held_stays : (o : Op) (u t word after : ℕ) (answer : ℤ) → kind_of (name_of o) ≡ kind.Mutex → (u ≡ t → o ≢ op.Unlock) → lock_in word ≡ HeldBy t → advanced o u word ≡ Advances after answer → lock_in after ≡ HeldBy t
held_stays op.Lock u t word after answer k ne held e =
    let i = advanced_inverse op.Lock u word after answer e in
    elim (lock_rows u (lock_in word) i.0 answer i.1) [
      | inl r ↦ cc
      | inr r ↦ same_lock word after t i.0 held (r.1 ∙ sym r.0) i.2
    ]
held_stays op.TryLock u t word after answer k ne held e =
    let i = advanced_inverse op.TryLock u word after answer e in
    elim (try_lock_rows u (lock_in word) i.0 answer i.1) [
      | inl r ↦ cc
      | inr r ↦ same_lock word after t i.0 held r.1 i.2
    ]
held_stays op.Unlock u t word after answer k ne held e =
    let i = advanced_inverse op.Unlock u word after answer e in
    elim (unlock_rows u (lock_in word) i.0 answer i.1) [
      | inl r ↦ let same : u ≡ t = cc in absurd (ne same refl)
      | inr r ↦ same_lock word after t i.0 held r.1 i.2
    ]
held_stays op.MutexInit u t word after answer k ne held e =
    let i = advanced_inverse op.MutexInit u word after answer e in
    elim (mutex_init_rows u (lock_in word) i.0 answer i.1) [
      | inl r ↦ cc
      | inr r ↦ same_lock word after t i.0 held r.1 i.2
    ]
held_stays _ u t word after answer k ne held e = cc

none_moves : (o : Op) (u t word after : ℕ) (answer : ℤ) → kind_of (name_of o) ≡ kind.Weak → u ≢ t → lock_in word ≡ HeldBy t → advanced o u word ≡ Advances after answer → ⊥
none_moves op.Take u t word after answer k ne held e =
    let i = advanced_inverse op.Take u word after answer e in
    let r = take_rows u (lock_in word) i.0 answer i.1 in cc
none_moves op.Retake u t word after answer k ne held e =
    let i = advanced_inverse op.Retake u word after answer e in
    let r = take_rows u (lock_in word) i.0 answer i.1 in cc
none_moves op.Give u t word after answer k ne held e =
    let i = advanced_inverse op.Give u word after answer e in
    let r = give_rows u (lock_in word) i.0 answer i.1 in
    let same : u ≡ t = cc in ne same
none_moves op.Revoke u t word after answer k ne held e =
    let i = advanced_inverse op.Revoke u word after answer e in
    let r = give_rows u (lock_in word) i.0 answer i.1 in
    let same : u ≡ t = cc in ne same
none_moves _ u t word after answer k ne held e = cc

refused : (m : Advance) → ((after : ℕ) (answer : ℤ) → m ≡ Advances after answer → ⊥) → m ≡ NotAllowed
refused NotAllowed h = refl
refused (Advances after answer) h = absurd (h after answer refl)

-- on a stripe that a thread holds no other thread has an operation
pub others_wait : (o : Op) (u t word : ℕ) → kind_of (name_of o) ≡ kind.Weak → u ≢ t → lock_in word ≡ HeldBy t → advanced o u word ≡ NotAllowed
others_wait o u t word k ne held = refused (advanced o u word) (λ after answer e. none_moves o u t word after answer k ne held e)

pub ruleset shown_words = (number_of-word_of, shown-word_of)
