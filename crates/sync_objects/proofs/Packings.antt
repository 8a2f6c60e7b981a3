-- Words and packed states: each part of a word is read back.
use Rattle.std.proofs.Common.{◌≡◌, ℕ, suc, ◌+◌, ◌*◌, ◌/◌, ◌%◌, ◌^◌, ◌<◌, refl, ap, ◌∙◌, arith, add-one}
use Rattle.sync_objects.specs.declared.kind.ObjKind.{ObjKind}
use Rattle.sync_objects.specs.declared.kind.ObjKind.TheVariants as kind
use Rattle.sync_objects.specs.States.{Free, HeldBy, Epoch, Waits, LockState, Shared, Idle, Closed, Begun, Ended, Joined, Shut, Started, Counts, Running, Halted, Trapped, Position, Open, StateOf}
use Rattle.sync_objects.specs.Packing.{packed, unpacked, slot_of, lock_of, barrier_of, threads_of, rw_of, packed_lock}
use Rattle.sync_objects.specs.Sound.{IsSoundState}
use Rattle.sync_objects.specs.Words.{number_of, state_of, word_of}

pub number_of-word_of : (n s : ℕ) → number_of (word_of n s) ≡ n
number_of-word_of n s = omega arith

pub state_of-word_of : (n s : ℕ) → s < 2 ^ 32 → state_of (word_of n s) ≡ s
state_of-word_of n s h = omega arith

pub word_of-parts : (w : ℕ) → word_of (number_of w) (state_of w) ≡ w
word_of-parts w = omega arith

pub barrier_parts : (c a g : ℕ) → c < 32 → a < 32 → barrier_of (c + 32 * a + 1024 * g) ≡ Waits c a g
barrier_parts c a g hc ha =
    let e1 : (c + 32 * a + 1024 * g) % 32 ≡ c = omega arith in
    let e2 : (c + 32 * a + 1024 * g) / 32 % 32 ≡ a = omega arith in
    let e3 : (c + 32 * a + 1024 * g) / 1024 ≡ g = omega arith in
    cc

pub threads_parts : (d l : ℕ) → d < 32 → threads_of (d + 32 * l) ≡ Counts d l
threads_parts d l h =
    let e1 : (d + 32 * l) % 32 ≡ d = omega arith in
    let e2 : (d + 32 * l) / 32 ≡ l = omega arith in
    cc

pub started_parts : (f : ℕ) → slot_of (f + 6) ≡ Started f
started_parts f = let e : f + 6 ≡ suc (suc (suc (suc (suc (suc f))))) = omega arith in ap slot_of e

pub held_parts : (t : ℕ) → lock_of (t + 1) ≡ HeldBy t
held_parts t = ap lock_of (add-one t)

lock_parts : (s : LockState) → lock_of (packed_lock s) ≡ s
lock_parts Free = refl
lock_parts (HeldBy t) = held_parts t

rw_parts : (r : ℕ) (s : LockState) → r < 2 ^ 16 → rw_of (r + 65536 * packed_lock s) ≡ Shared r s
rw_parts r s h =
    let e1 : (r + 65536 * packed_lock s) % 65536 ≡ r = omega arith in
    let e2 : (r + 65536 * packed_lock s) / 65536 ≡ packed_lock s = omega arith in
    let e3 : lock_of ((r + 65536 * packed_lock s) / 65536) ≡ s = ap lock_of e2 ∙ lock_parts s in
    cc

-- a sound state is read back from its number
pub unpacked-packed : (k : ObjKind) (number : ℕ) (s : StateOf k) → IsSoundState k number s → unpacked k (packed k s) ≡ s
unpacked-packed kind.Mutex number Free h = refl
unpacked-packed kind.Mutex number (HeldBy t) h = held_parts t
unpacked-packed kind.Cond number (Epoch e) h = refl
unpacked-packed kind.Barrier number (Waits c a g) h = barrier_parts c a g (omega arith) (omega arith)
unpacked-packed kind.Rw number (Shared r w) h = rw_parts r w h.0
unpacked-packed kind.Weak number Free h = refl
unpacked-packed kind.Weak number (HeldBy t) h = held_parts t
unpacked-packed kind.Slot number Idle h = refl
unpacked-packed kind.Slot number Closed h = refl
unpacked-packed kind.Slot number Begun h = refl
unpacked-packed kind.Slot number Ended h = refl
unpacked-packed kind.Slot number Joined h = refl
unpacked-packed kind.Slot number Shut h = refl
unpacked-packed kind.Slot number (Started f) h = started_parts f
unpacked-packed kind.Threads number (Counts d l) h = threads_parts d l (omega arith)
unpacked-packed kind.Halt number Running h = refl
unpacked-packed kind.Halt number Halted h = refl
unpacked-packed kind.Halt number Trapped h = refl
unpacked-packed kind.Input number (Position p) h = refl
unpacked-packed kind.Output number Open h = refl

-- a sound state's number has 32 bits
pub packed-fits : (k : ObjKind) (number : ℕ) (s : StateOf k) → number < 2 ^ 32 → IsSoundState k number s → packed k s < 2 ^ 32
packed-fits kind.Mutex number Free n h = omega arith
packed-fits kind.Mutex number (HeldBy t) n h = omega arith
packed-fits kind.Cond number (Epoch e) n h = omega arith
packed-fits kind.Barrier number (Waits c a g) n h = omega arith
packed-fits kind.Rw number (Shared r Free) n h = omega arith
packed-fits kind.Rw number (Shared r (HeldBy t)) n h = omega arith
packed-fits kind.Weak number Free n h = omega arith
packed-fits kind.Weak number (HeldBy t) n h = omega arith
packed-fits kind.Slot number Idle n h = omega arith
packed-fits kind.Slot number Closed n h = omega arith
packed-fits kind.Slot number Begun n h = omega arith
packed-fits kind.Slot number Ended n h = omega arith
packed-fits kind.Slot number Joined n h = omega arith
packed-fits kind.Slot number Shut n h = omega arith
packed-fits kind.Slot number (Started f) n h = omega arith
packed-fits kind.Threads number (Counts d l) n h = omega arith
packed-fits kind.Halt number Running n h = omega arith
packed-fits kind.Halt number Halted n h = omega arith
packed-fits kind.Halt number Trapped n h = omega arith
packed-fits kind.Input number (Position p) n h = omega arith
packed-fits kind.Output number Open n h = omega arith
