-- Words of an object that allow the same operations, as far as their names decide: where one of them allows an operation, so does
-- the other the operation that its name tells of.
use Rattle.std.proofs.Common.{◌≡◌, ℕ, ◌+◌, ◌-◌, ◌^◌, ◌<◌, ◌≤◌, ℤ, pos, Option, Some, None, refl, sym, ap, subst, ◌∙◌, arith}
use Rattle.sync_objects.specs.Advance.{Advance, NotAllowed, Advances, advanced}
use Rattle.sync_objects.specs.Names.{name_of, kind_of, object_kind, Fits}
use Rattle.sync_objects.specs.Packing.{shown, packed}
use Rattle.sync_objects.specs.Sound.{IsSoundWord, IsInRange}
use Rattle.sync_objects.specs.States.{SlotState, Idle, Closed, Begun, Ended, Joined, Shut, Started}
use Rattle.sync_objects.specs.Table.{Move, NoRow, Moves, first_row, rows}
use Rattle.sync_objects.specs.Words.{number_of, word_of}
use Rattle.sync_objects.specs.declared.entry.Entry.{Entry}
use Rattle.sync_objects.specs.declared.kind.ObjKind.{ObjKind}
use Rattle.sync_objects.specs.declared.kind.ObjKind.TheVariants as kind
use Rattle.sync_objects.specs.declared.operation.Op.{Op}
use Rattle.sync_objects.specs.declared.operation.Op.TheVariants as op
use Rattle.sync_objects.specs.declared.operation.OpName.{OpName}
use Rattle.sync_objects.specs.declared.operation.OpName.TheVariants as name
use Rattle.sync_objects.proofs.Facts.{moves, allowed}
use Rattle.sync_objects.proofs.Soundness.{keeps_sound, number_rises}
use Rattle.log_walks.specs.Known.{known_op, op_advance, known_advance, word_after}

-- threads are drawn among this many slots
abbrev pub Draws : ℕ → Op → Type 0
Draws slots (op.Draw n) = n ≡ slots
Draws slots _ = Unit {0}

-- a slot's state, but for the function that was started
abbrev pub shape : SlotState → SlotState
shape (Started f) = Started 0
shape Idle = Idle
shape Closed = Closed
shape Begun = Begun
shape Ended = Ended
shape Joined = Joined
shape Shut = Shut

-- the words allow the same operations: for a slot they show states of one shape
abbrev pub IsLike : ObjKind → ℕ → ℕ → Type 0
IsLike kind.Mutex w v = w ≡ v
IsLike kind.Cond w v = Unit {0}
IsLike kind.Barrier w v = Unit {0}
IsLike kind.Rw w v = w ≡ v
IsLike kind.Weak w v = w ≡ v
IsLike kind.Slot w v = shape (shown kind.Slot w) ≡ shape (shown kind.Slot v)
IsLike kind.Threads w v = w ≡ v
IsLike kind.Halt w v = w ≡ v
IsLike kind.Input w v = Unit {0}
IsLike kind.Output w v = Unit {0}

pub like_itself : (k : ObjKind) (w : ℕ) → IsLike k w w
like_itself kind.Mutex w = refl
like_itself kind.Cond w = tt
like_itself kind.Barrier w = tt
like_itself kind.Rw w = refl
like_itself kind.Weak w = refl
like_itself kind.Slot w = refl
like_itself kind.Threads w = refl
like_itself kind.Halt w = refl
like_itself kind.Input w = tt
like_itself kind.Output w = tt

-- it is allowed, and leaves a word like this one
pub record Goes (k : ObjKind) (next : Advance) (w : ℕ) : Type 0 where
  pub word : ℕ
  pub answer : ℤ
  pub is : next ≡ Advances word answer
  pub like : IsLike k w word

-- ---- slots

-- a move without its answer, by the shape of the state after it
abbrev shaped : Move SlotState → Move SlotState
shaped NoRow = NoRow
shaped (Moves s answer) = Moves (shape s) (pos 0)

shaped_moves : (m : Move SlotState) (s : SlotState) → shaped m ≡ Moves s (pos 0) → (r : SlotState) × (answer : ℤ) × (m ≡ Moves r answer) × (shape r ≡ s)
shaped_moves NoRow s e = cc
shaped_moves (Moves r answer) s e = (r, answer, refl, cc)

start_rows : (f t : ℕ) (x : SlotState) → shaped (first_row (rows (op.Start f) t) x) ≡ shaped (first_row (rows (op.Start 0) t) (shape x))
start_rows f t Idle = refl
start_rows f t _ = refl

begin_rows : (t : ℕ) (x : SlotState) → shaped (first_row (rows op.Begin t) x) ≡ shaped (first_row (rows op.Begin t) (shape x))
begin_rows t Idle = refl
begin_rows t _ = refl

end_rows : (t : ℕ) (x : SlotState) → shaped (first_row (rows op.End t) x) ≡ shaped (first_row (rows op.End t) (shape x))
end_rows t Idle = refl
end_rows t _ = refl

join_rows : (t : ℕ) (x : SlotState) → shaped (first_row (rows op.Join t) x) ≡ shaped (first_row (rows op.Join t) (shape x))
join_rows t Idle = refl
join_rows t _ = refl

close_rows : (t : ℕ) (x : SlotState) → shaped (first_row (rows op.Close t) x) ≡ shaped (first_row (rows op.Close t) (shape x))
close_rows t Idle = refl
close_rows t _ = refl

-- rows that say the same of states of one shape move them to such states
same_row : (r r0 : SlotState → Move SlotState) → ((x : SlotState) → shaped (r x) ≡ shaped (r0 (shape x))) → ((x : SlotState) → shaped (r0 x) ≡ shaped (r0 (shape x))) → (x y after : SlotState) (answer : ℤ) → shape x ≡ shape y → r x ≡ Moves after answer → (z : SlotState) × (b : ℤ) × (r0 y ≡ Moves z b) × (shape z ≡ shape after)
same_row r r0 by by0 x y after answer like is = shaped_moves (r0 y) (shape after) (by0 y ∙ ap (λ z. shaped (r0 z)) (sym like) ∙ sym (by x) ∙ ap shaped is)

-- the state after a row is what the word after it shows
pub record Lands (next : Advance) (w : ℕ) (s : SlotState) : Type 0 where
  pub word : ℕ
  pub answer : ℤ
  pub is : next ≡ Advances word answer
  pub shows : shown kind.Slot word ≡ s

lands_goes : (next : Advance) (w v : ℕ) (s : SlotState) → shape s ≡ shape (shown kind.Slot w) → Lands next v s → Goes kind.Slot next w
lands_goes next w v s like l = record { word = l.word; answer = l.answer; is = l.is; like = sym like ∙ ap shape (sym l.shows) }

moves_same : (x y : SlotState) (a b : ℤ) → Moves x a ≡ Moves y b → x ≡ y
moves_same x y a b e = cc

-- ---- each operation

-- an operation of this name by thread t takes a word of this kind to another, and so does what its name tells of with a like word
abbrev pub GoesLike : ℕ → OpName → ObjKind → Op → Type 0
GoesLike slots n k o = (t w v after : ℕ) (answer : ℤ) → t < 16 → number_of w < 2 ^ 32 - 1 → IsSoundWord k w → number_of v < 2 ^ 32 - 1 → IsSoundWord k v → IsLike k w v → advanced o t w ≡ Advances after answer → Goes k (op_advance (known_op slots n) t v) after

-- where the words are the same
by_same : (k : ObjKind) (o o0 : Op) → o ≡ o0 → ((x : ℕ) → IsLike k x x) → (t w v after : ℕ) (answer : ℤ) → w ≡ v → advanced o t w ≡ Advances after answer → Goes k (advanced o0 t v) after
by_same k o o0 e like t w v after answer same is = record { word = after; answer = answer; is = ap (λ z. advanced z t v) (sym e) ∙ ap (advanced o t) (sym same) ∙ is; like = like after }

-- where the name doesn't tell
untold : (k : ObjKind) (v after : ℕ) → ((x y : ℕ) → IsLike k x y) → Goes k (Advances v (pos 0)) after
untold k v after like = record { word = v; answer = pos 0; is = refl; like = like after v }

pub goes_like : (slots : ℕ) (o : Op) → IsInRange o → Draws slots o → GoesLike slots (name_of o) (kind_of (name_of o)) o
goes_like slots op.Lock range draws t w v after answer small few sound few0 sound0 like is = by_same kind.Mutex op.Lock op.Lock refl (like_itself kind.Mutex) t w v after answer like is
goes_like slots op.TryLock range draws t w v after answer small few sound few0 sound0 like is = by_same kind.Mutex op.TryLock op.TryLock refl (like_itself kind.Mutex) t w v after answer like is
goes_like slots op.Unlock range draws t w v after answer small few sound few0 sound0 like is = by_same kind.Mutex op.Unlock op.Unlock refl (like_itself kind.Mutex) t w v after answer like is
goes_like slots op.MutexInit range draws t w v after answer small few sound few0 sound0 like is = by_same kind.Mutex op.MutexInit op.MutexInit refl (like_itself kind.Mutex) t w v after answer like is
goes_like slots op.CondEnter range draws t w v after answer small few sound few0 sound0 like is = untold kind.Cond v after (λ x y. tt)
goes_like slots (op.CondWake epoch) range draws t w v after answer small few sound few0 sound0 like is = untold kind.Cond v after (λ x y. tt)
goes_like slots op.Signal range draws t w v after answer small few sound few0 sound0 like is = untold kind.Cond v after (λ x y. tt)
goes_like slots (op.BarrierInit count) range draws t w v after answer small few sound few0 sound0 like is = untold kind.Barrier v after (λ x y. tt)
goes_like slots op.Arrive range draws t w v after answer small few sound few0 sound0 like is = untold kind.Barrier v after (λ x y. tt)
goes_like slots (op.Pass generation) range draws t w v after answer small few sound few0 sound0 like is = untold kind.Barrier v after (λ x y. tt)
goes_like slots op.RdLock range draws t w v after answer small few sound few0 sound0 like is = by_same kind.Rw op.RdLock op.RdLock refl (like_itself kind.Rw) t w v after answer like is
goes_like slots op.WrLock range draws t w v after answer small few sound few0 sound0 like is = by_same kind.Rw op.WrLock op.WrLock refl (like_itself kind.Rw) t w v after answer like is
goes_like slots op.RwUnlock range draws t w v after answer small few sound few0 sound0 like is = by_same kind.Rw op.RwUnlock op.RwUnlock refl (like_itself kind.Rw) t w v after answer like is
goes_like slots op.RwInit range draws t w v after answer small few sound few0 sound0 like is = by_same kind.Rw op.RwInit op.RwInit refl (like_itself kind.Rw) t w v after answer like is
goes_like slots op.Take range draws t w v after answer small few sound few0 sound0 like is = by_same kind.Weak op.Take op.Take refl (like_itself kind.Weak) t w v after answer like is
goes_like slots op.Retake range draws t w v after answer small few sound few0 sound0 like is = by_same kind.Weak op.Retake op.Retake refl (like_itself kind.Weak) t w v after answer like is
goes_like slots op.Give range draws t w v after answer small few sound few0 sound0 like is = by_same kind.Weak op.Give op.Give refl (like_itself kind.Weak) t w v after answer like is
goes_like slots op.Revoke range draws t w v after answer small few sound few0 sound0 like is = by_same kind.Weak op.Revoke op.Revoke refl (like_itself kind.Weak) t w v after answer like is
goes_like slots (op.Draw n) range draws t w v after answer small few sound few0 sound0 like is = by_same kind.Threads (op.Draw n) (op.Draw slots) (ap op.Draw draws) (like_itself kind.Threads) t w v after answer like is
goes_like slots (op.Start f) range draws t w v after answer small few sound few0 sound0 like is =
    let i = moves (op.Start f) t w after answer small range few sound is in
    let r = same_row (first_row (rows (op.Start f) t)) (first_row (rows (op.Start 0) t)) (start_rows f t) (start_rows 0 t) (shown kind.Slot w) (shown kind.Slot v) (shown kind.Slot after) answer like i in
    let a = allowed (op.Start 0) t v r.0 r.1 r.2 in
    let j = moves (op.Start 0) t v (word_of (number_of v + 1) (packed kind.Slot r.0)) r.1 small (omega arith) few0 sound0 a in
    lands_goes (advanced (op.Start 0) t v) after v r.0 r.3 (record { word = _; answer = r.1; is = a; shows = moves_same (shown kind.Slot (word_of (number_of v + 1) (packed kind.Slot r.0))) r.0 r.1 r.1 (sym j ∙ r.2) })
goes_like slots op.Begin range draws t w v after answer small few sound few0 sound0 like is =
    let i = moves op.Begin t w after answer small range few sound is in
    let r = same_row (first_row (rows op.Begin t)) (first_row (rows op.Begin t)) (begin_rows t) (begin_rows t) (shown kind.Slot w) (shown kind.Slot v) (shown kind.Slot after) answer like i in
    let a = allowed op.Begin t v r.0 r.1 r.2 in
    let j = moves op.Begin t v (word_of (number_of v + 1) (packed kind.Slot r.0)) r.1 small tt few0 sound0 a in
    lands_goes (advanced op.Begin t v) after v r.0 r.3 (record { word = _; answer = r.1; is = a; shows = moves_same (shown kind.Slot (word_of (number_of v + 1) (packed kind.Slot r.0))) r.0 r.1 r.1 (sym j ∙ r.2) })
goes_like slots op.End range draws t w v after answer small few sound few0 sound0 like is =
    let i = moves op.End t w after answer small range few sound is in
    let r = same_row (first_row (rows op.End t)) (first_row (rows op.End t)) (end_rows t) (end_rows t) (shown kind.Slot w) (shown kind.Slot v) (shown kind.Slot after) answer like i in
    let a = allowed op.End t v r.0 r.1 r.2 in
    let j = moves op.End t v (word_of (number_of v + 1) (packed kind.Slot r.0)) r.1 small tt few0 sound0 a in
    lands_goes (advanced op.End t v) after v r.0 r.3 (record { word = _; answer = r.1; is = a; shows = moves_same (shown kind.Slot (word_of (number_of v + 1) (packed kind.Slot r.0))) r.0 r.1 r.1 (sym j ∙ r.2) })
goes_like slots op.Join range draws t w v after answer small few sound few0 sound0 like is =
    let i = moves op.Join t w after answer small range few sound is in
    let r = same_row (first_row (rows op.Join t)) (first_row (rows op.Join t)) (join_rows t) (join_rows t) (shown kind.Slot w) (shown kind.Slot v) (shown kind.Slot after) answer like i in
    let a = allowed op.Join t v r.0 r.1 r.2 in
    let j = moves op.Join t v (word_of (number_of v + 1) (packed kind.Slot r.0)) r.1 small tt few0 sound0 a in
    lands_goes (advanced op.Join t v) after v r.0 r.3 (record { word = _; answer = r.1; is = a; shows = moves_same (shown kind.Slot (word_of (number_of v + 1) (packed kind.Slot r.0))) r.0 r.1 r.1 (sym j ∙ r.2) })
goes_like slots op.Close range draws t w v after answer small few sound few0 sound0 like is =
    let i = moves op.Close t w after answer small range few sound is in
    let r = same_row (first_row (rows op.Close t)) (first_row (rows op.Close t)) (close_rows t) (close_rows t) (shown kind.Slot w) (shown kind.Slot v) (shown kind.Slot after) answer like i in
    let a = allowed op.Close t v r.0 r.1 r.2 in
    let j = moves op.Close t v (word_of (number_of v + 1) (packed kind.Slot r.0)) r.1 small tt few0 sound0 a in
    lands_goes (advanced op.Close t v) after v r.0 r.3 (record { word = _; answer = r.1; is = a; shows = moves_same (shown kind.Slot (word_of (number_of v + 1) (packed kind.Slot r.0))) r.0 r.1 r.1 (sym j ∙ r.2) })
goes_like slots op.Leave range draws t w v after answer small few sound few0 sound0 like is = by_same kind.Threads op.Leave op.Leave refl (like_itself kind.Threads) t w v after answer like is
goes_like slots op.HaltAll range draws t w v after answer small few sound few0 sound0 like is = by_same kind.Halt op.HaltAll op.HaltAll refl (like_itself kind.Halt) t w v after answer like is
goes_like slots op.TrapHere range draws t w v after answer small few sound few0 sound0 like is = by_same kind.Halt op.TrapHere op.TrapHere refl (like_itself kind.Halt) t w v after answer like is
goes_like slots op.Stop range draws t w v after answer small few sound few0 sound0 like is = by_same kind.Halt op.Stop op.Stop refl (like_itself kind.Halt) t w v after answer like is
goes_like slots (op.GetChar len) range draws t w v after answer small few sound few0 sound0 like is = untold kind.Input v after (λ x y. tt)
goes_like slots op.Print range draws t w v after answer small few sound few0 sound0 like is = untold kind.Output v after (λ x y. tt)

-- ---- the words stay sound

-- an operation by name has this name, and its numbers are in range
abbrev pub IsKnown : OpName → Option Op → Type 0
IsKnown n None = Unit {0}
IsKnown n (Some o) = (name_of o ≡ n) × IsInRange o

pub known_is : (slots : ℕ) (n : OpName) → 1 ≤ slots → slots ≤ 16 → IsKnown n (known_op slots n)
known_is slots name.Draw some few = (refl, (some, few))
known_is slots name.Start some few = (refl, omega arith)
known_is slots name.CondEnter some few = tt
known_is slots name.CondWake some few = tt
known_is slots name.Signal some few = tt
known_is slots name.BarrierInit some few = tt
known_is slots name.Arrive some few = tt
known_is slots name.Pass some few = tt
known_is slots name.GetChar some few = tt
known_is slots name.Print some few = tt
known_is slots _ some few = (refl, tt)

-- a word that can be, after at most so many operations
abbrev pub IsSoundAfter : ObjKind → ℕ → ℕ → Type 0
IsSoundAfter k n w = IsSoundWord k w × (number_of w ≤ n)

after_advance : (o : Op) (k : ObjKind) (t n v : ℕ) (a : Advance) → advanced o t v ≡ a → kind_of (name_of o) ≡ k → IsInRange o → t < 16 → n < 2 ^ 32 - 1 → IsSoundAfter k n v → IsSoundAfter k (n + 1) (word_after v a)
after_advance o k t n v NotAllowed is fits range small few h = let le = h.1 in (h.0, omega (arith, le))
after_advance o k t n v (Advances next answer) is fits range small few h =
    let le = h.1 in
    let up = number_rises o t v next answer is in
    (subst (λ z. IsSoundWord z next) fits (keeps_sound o t v next answer small range (omega (arith, le, few)) (subst (λ z. IsSoundWord z v) (sym fits) h.0) is), omega (arith, le, up))

pub sound_after : (slots : ℕ) (e : Entry) (n v : ℕ) → 1 ≤ slots → slots ≤ 16 → Fits e.op e.obj → e.thread < 16 → n < 2 ^ 32 - 1 → IsSoundAfter (object_kind e.obj) n v → IsSoundAfter (object_kind e.obj) (n + 1) (word_after v (known_advance slots e v))
sound_after slots e n v some few fits small room h = go (known_op slots e.op) (known_is slots e.op some few)
  where
    go : (o : Option Op) → IsKnown e.op o → IsSoundAfter (object_kind e.obj) (n + 1) (word_after v (op_advance o e.thread v))
    go None is = let le = h.1 in (h.0, omega (arith, le))
    go (Some o) is = after_advance o (object_kind e.obj) e.thread n v (advanced o e.thread v) refl (ap kind_of is.0 ∙ fits) is.1 small room h
