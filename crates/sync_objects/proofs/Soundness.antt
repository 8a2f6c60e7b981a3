-- Every start word is sound, and every row of the table keeps a word sound.
use Rattle.std.proofs.Common.{◌≡◌, ℕ, zero, suc, ◌+◌, ◌-◌, ◌^◌, ◌<◌, ◌==◌, ◌||◌, nat_lt, not, Bool, true, false, if◌then◌else◌, ℤ, refl, sym, ap, ◌∙◌, subst, arith}
use Rattle.std.proofs.lemmas.Bool.Decides.{nat_tests}
use Rattle.sync_objects.specs.declared.kind.ObjKind.{ObjKind}
use Rattle.sync_objects.specs.declared.kind.ObjKind.TheVariants as kind
use Rattle.sync_objects.specs.declared.object.ObjId.{ObjId}
use Rattle.sync_objects.specs.declared.object.ObjId.TheVariants as object
use Rattle.sync_objects.specs.declared.operation.Op.{Op}
use Rattle.sync_objects.specs.declared.operation.Op.TheVariants as op
use Rattle.sync_objects.specs.Names.{name_of, kind_of, object_kind}
use Rattle.sync_objects.specs.States.{LockState, Free, HeldBy, is_free, is_held_by, Shared, reads, holds, is_unheld, Epoch, Waits, may_count, is_idle, is_closed, is_begun, is_ended, is_joined, is_started, Idle, Closed, Begun, Ended, Joined, Shut, Started, Counts, is_running, is_halted, is_trapped, Position, Open, StateOf}
use Rattle.sync_objects.specs.Packing.{packed, unpacked, shown}
use Rattle.sync_objects.specs.Advance.{Advances, after_move, advanced}
use Rattle.sync_objects.specs.Table.{Move, NoRow, Moves, first_row, rows}
use Rattle.sync_objects.specs.Sound.{IsSoundLock, IsSoundRw, IsSoundState, IsSoundWord, IsInRange}
use Rattle.sync_objects.specs.Start.{start_state, packed_start, start_word}
use Rattle.sync_objects.specs.Words.{number_of, word_of}
use Rattle.sync_objects.proofs.Readers.{joins_readers}
use Rattle.sync_objects.proofs.Packings.{number_of-word_of, state_of-word_of, unpacked-packed, packed-fits}

-- a word made of a sound state is sound
pub word_is_sound : (k : ObjKind) (number : ℕ) (s : StateOf k) → number < 2 ^ 32 → IsSoundState k number s → IsSoundWord k (word_of number (packed k s))
word_is_sound k number s small h =
    let state = state_of-word_of number (packed k s) (packed-fits k number s small h) in
    let back = unpacked-packed k number s h in
    record {
      shows = state ∙ ap (packed k) (sym (ap (unpacked k) state ∙ back));
      state = subst (λ z. IsSoundState k (number_of (word_of number (packed k s))) z) (sym (ap (unpacked k) state ∙ back)) (subst (λ n. IsSoundState k n s) (sym (number_of-word_of number (packed k s))) h);
    }

start_is_sound_state : (o : ObjId) → IsSoundState (object_kind o) 0 (start_state o)
start_is_sound_state (object.Mutex cell) = tt
start_is_sound_state (object.Cond cell) = omega arith
start_is_sound_state (object.Barrier cell) = (omega arith, omega arith, omega arith, omega arith)
start_is_sound_state (object.Rw cell) = (omega arith, tt)
start_is_sound_state (object.Weak lock stripe) = tt
start_is_sound_state (object.Slot zero) = tt
start_is_sound_state (object.Slot (suc k)) = tt
start_is_sound_state object.Threads = (omega arith, omega arith, omega arith)
start_is_sound_state object.Halt = tt
start_is_sound_state object.Input = omega arith
start_is_sound_state object.Output = tt

-- every start word is sound
pub start_is_sound : (o : ObjId) → IsSoundWord (object_kind o) (start_word o)
unfolding packed_start
start_is_sound o = word_is_sound (object_kind o) 0 (start_state o) (omega arith) (start_is_sound_state o)

after_move_inverse : (k : ObjKind) (word : ℕ) (m : Move (StateOf k)) (after : ℕ) (answer : ℤ) → after_move k word m ≡ Advances after answer →
    (s : StateOf k) × (m ≡ Moves s answer) × (after ≡ word_of (number_of word + 1) (packed k s))
after_move_inverse k word NoRow after answer e = cc
after_move_inverse k word (Moves s a) after answer e =
    let same_word : word_of (number_of word + 1) (packed k s) ≡ after = cc in
    let same_answer : a ≡ answer = cc in
    (s, ap (Moves s) same_answer, sym same_word)

-- what a move leaves is sound, if it moves
abbrev pub SoundMove : (k : ObjKind) → ℕ → Move (StateOf k) → Type 0
SoundMove k number NoRow = Unit {0}
SoundMove k number (Moves s answer) = IsSoundState k number s

either_row : (k : ObjKind) (number : ℕ) (b : Bool) (x y : Move (StateOf k)) → (b ≡ true → SoundMove k number x) → (b ≡ false → SoundMove k number y) → SoundMove k number (if b then x else y)
either_row k number true x y h g = h refl
either_row k number false x y h g = g refl

-- read-write locks

lessened : (b : Bool) (r k : ℕ) → r < 2 ^ 16 → (if b then r - k else r) < 2 ^ 16
lessened true r k h = omega arith
lessened false r k h = h

freed : (b : Bool) (s : LockState) → IsSoundLock s → IsSoundLock (if b then Free else s)
freed true s h = tt
freed false s h = h

left_false : (a b : Bool) → (a || b) ≡ false → a ≡ false
left_false true b e = cc
left_false false b e = refl

-- each row that fits a sound state leaves a sound one, with one more operation
pub row_is_sound : (o : Op) (t number : ℕ) (s : StateOf (kind_of (name_of o))) → t < 16 → IsInRange o → IsSoundState (kind_of (name_of o)) number s → SoundMove (kind_of (name_of o)) (number + 1) (first_row (rows o t) s)
row_is_sound op.Lock t number Free small range h = small
row_is_sound op.Lock t number (HeldBy u) small range h = either_row kind.Mutex (number + 1) (u == t) _ _ (λ _. h) (λ _. tt)
row_is_sound op.TryLock t number Free small range h = small
row_is_sound op.TryLock t number (HeldBy u) small range h = h
row_is_sound op.Unlock t number Free small range h = tt
row_is_sound op.Unlock t number (HeldBy u) small range h = either_row kind.Mutex (number + 1) (u == t) _ _ (λ _. tt) (λ _. h)
row_is_sound op.MutexInit t number Free small range h = tt
row_is_sound op.MutexInit t number (HeldBy u) small range h = h
row_is_sound op.CondEnter t number (Epoch e) small range h = omega arith
row_is_sound (op.CondWake epoch) t number (Epoch e) small range h = either_row kind.Cond (number + 1) (not (e == epoch)) _ _ (λ _. omega arith) (λ _. tt)
row_is_sound op.Signal t number (Epoch e) small range h = omega arith
row_is_sound (op.BarrierInit n) t number (Waits c a g) small range h =
    either_row kind.Barrier (number + 1) (may_count n (Waits c a g)) _ _ (λ e. grind (arith, nat_tests)) (λ _. (h.0, h.1, h.2, omega arith))
row_is_sound op.Arrive t number (Waits c a g) small range h = grind (arith, nat_tests)
row_is_sound (op.Pass generation) t number (Waits c a g) small range h = either_row kind.Barrier (number + 1) (not (g == generation)) _ _ (λ _. (h.0, h.1, h.2, omega arith)) (λ _. tt)
row_is_sound op.RdLock t number (Shared r w) small range h =
    either_row kind.Rw (number + 1) (holds t (Shared r w)) _ _
    (λ _. h)
    (λ e. either_row kind.Rw (number + 1) (is_free w) _ _ (λ _. (joins_readers t r small h.0 (left_false (reads t (Shared r w)) (is_held_by t w) e), h.1)) (λ _. tt))
row_is_sound op.WrLock t number (Shared r w) small range h =
    either_row kind.Rw (number + 1) (holds t (Shared r w)) _ _
    (λ _. h)
    (λ _. either_row kind.Rw (number + 1) (is_unheld (Shared r w)) _ _ (λ _. (h.0, small)) (λ _. tt))
row_is_sound op.RwUnlock t number (Shared r w) small range h =
    either_row kind.Rw (number + 1) (holds t (Shared r w)) _ _
    (λ _. (lessened (reads t (Shared r w)) r (2 ^ t) h.0, freed (is_held_by t w) w h.1))
    (λ _. h)
row_is_sound op.RwInit t number (Shared r w) small range h = either_row kind.Rw (number + 1) (is_unheld (Shared r w)) _ _ (λ _. h) (λ _. h)
row_is_sound op.Take t number Free small range h = small
row_is_sound op.Take t number (HeldBy u) small range h = tt
row_is_sound op.Retake t number Free small range h = small
row_is_sound op.Retake t number (HeldBy u) small range h = tt
row_is_sound op.Give t number Free small range h = tt
row_is_sound op.Give t number (HeldBy u) small range h = either_row kind.Weak (number + 1) (u == t) _ _ (λ _. tt) (λ _. tt)
row_is_sound op.Revoke t number Free small range h = tt
row_is_sound op.Revoke t number (HeldBy u) small range h = either_row kind.Weak (number + 1) (u == t) _ _ (λ _. tt) (λ _. tt)
row_is_sound (op.Draw slots) t number (Counts d l) small range h = grind (arith, nat_tests)
row_is_sound (op.Start f) t number Idle small range h = range
row_is_sound (op.Start f) t number Closed small range h = tt
row_is_sound (op.Start f) t number Begun small range h = tt
row_is_sound (op.Start f) t number Ended small range h = tt
row_is_sound (op.Start f) t number Joined small range h = tt
row_is_sound (op.Start f) t number Shut small range h = tt
row_is_sound (op.Start f) t number (Started g) small range h = tt
row_is_sound op.Begin t number s small range h = either_row kind.Slot (number + 1) (is_started s) _ _ (λ _. tt) (λ _. tt)
row_is_sound op.End t number s small range h = either_row kind.Slot (number + 1) (is_begun s) _ _ (λ _. tt) (λ _. tt)
row_is_sound op.Join t number s small range h = either_row kind.Slot (number + 1) (is_ended s) _ _ (λ _. tt) (λ _. either_row kind.Slot (number + 1) (is_idle s || is_joined s || is_closed s) _ _ (λ _. h) (λ _. tt))
row_is_sound op.Close t number s small range h = either_row kind.Slot (number + 1) (is_idle s) _ _ (λ _. tt) (λ _. tt)
row_is_sound op.Leave t number (Counts d l) small range h = grind (arith, nat_tests)
row_is_sound op.HaltAll t number s small range h = either_row kind.Halt (number + 1) (is_running s) _ _ (λ _. tt) (λ _. tt)
row_is_sound op.TrapHere t number s small range h = either_row kind.Halt (number + 1) (is_running s) _ _ (λ _. tt) (λ _. tt)
row_is_sound op.Stop t number s small range h = either_row kind.Halt (number + 1) (is_halted s || is_trapped s) _ _ (λ _. tt) (λ _. tt)
row_is_sound (op.GetChar len) t number (Position p) small range h = either_row kind.Input (number + 1) (nat_lt p len) _ _ (λ _. omega arith) (λ _. omega arith)
row_is_sound op.Print t number Open small range h = tt

-- an allowed operation leaves this word
pub advanced_inverse : (o : Op) (t word after : ℕ) (answer : ℤ) → advanced o t word ≡ Advances after answer →
    (s : StateOf (kind_of (name_of o))) × (first_row (rows o t) (shown (kind_of (name_of o)) word) ≡ Moves s answer) × (after ≡ word_of (number_of word + 1) (packed (kind_of (name_of o)) s))
unfolding advanced
advanced_inverse o t word after answer e = after_move_inverse (kind_of (name_of o)) word (first_row (rows o t) (shown (kind_of (name_of o)) word)) after answer e

-- an allowed operation raises the number by exactly one
pub number_rises : (o : Op) (t word after : ℕ) (answer : ℤ) → advanced o t word ≡ Advances after answer → number_of after ≡ number_of word + 1
number_rises o t word after answer e =
    let i = advanced_inverse o t word after answer e in
    ap number_of i.2 ∙ number_of-word_of (number_of word + 1) (packed (kind_of (name_of o)) i.0)

-- an allowed operation keeps a word sound
pub keeps_sound : (o : Op) (t word after : ℕ) (answer : ℤ) → t < 16 → IsInRange o → number_of word < 2 ^ 32 - 1 → IsSoundWord (kind_of (name_of o)) word → advanced o t word ≡ Advances after answer → IsSoundWord (kind_of (name_of o)) after
keeps_sound o t word after answer small range few sound e =
    let k : ObjKind = kind_of (name_of o) in
    let i = advanced_inverse o t word after answer e in
    let h = subst (SoundMove k (number_of word + 1)) i.1 (row_is_sound o t (number_of word) (shown k word) small range sound.state) in
    subst (IsSoundWord k) (sym i.2) (word_is_sound k (number_of word + 1) i.0 (omega arith) h)
