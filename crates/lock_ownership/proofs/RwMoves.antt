-- What an operation does to a read-write lock; so that its word tells who holds it, and in which way.
use Rattle.std.proofs.Common.{◌≡◌, ◌≢◌, ℕ, ◌-◌, ◌/◌, ◌%◌, ◌^◌, ◌==◌, ◌&&◌, ◌||◌, ◌⊎◌, ⊎_elim, Bool, true, false, if◌then◌else◌, refl, sym, ap, subst, ◌∙◌, ℤ, pos, eqb-true, eq-eqb}
use Rattle.std.proofs.lemmas.Bool.{true≢false, and_parts, cond-false, ne_eqb, cases_eq}
use Rattle.sync_objects.specs.Modes.{excludes, covers}
use Rattle.sync_objects.specs.Names.{name_of, kind_of}
use Rattle.sync_objects.specs.Packing.{shown, rw_of}
use Rattle.sync_objects.specs.States.{LockState, Free, HeldBy, is_free, is_held_by, RwState, Shared, reads, writes, holds, has_no_writer, is_unheld, read_too, written_by, let_go_by}
use Rattle.sync_objects.specs.Table.{NoRow, Moves, first_row, rows, done, misuse}
use Rattle.sync_objects.specs.Words.{state_of}
use Rattle.sync_objects.specs.declared.kind.ObjKind.TheVariants as kind
use Rattle.sync_objects.specs.declared.mode.Mode.{Mode}
use Rattle.sync_objects.specs.declared.mode.Mode.TheVariants.{Read, Write}
use Rattle.sync_objects.specs.declared.operation.Op.{Op}
use Rattle.sync_objects.specs.declared.operation.Op.TheVariants as op
use Rattle.sync_objects.specs.declared.operation.OpName.{OpName}
use Rattle.sync_objects.specs.declared.operation.OpName.TheVariants as name
use Rattle.word_semantics.specs.Library.{is_misuse}
use Rattle.lock_ownership.specs.Holders.{holds_as, IsExclusive}
use Rattle.lock_ownership.proofs.RwBits.{joins_other, joins_own, leaves_other, no_reader}

-- the state that a word shows
abbrev pub rw_in : ℕ → RwState
rw_in w = rw_of (state_of w)

-- an operation by thread t on the lock: what it does to its state
pub data RwMove (o : OpName) (t : ℕ) (answer : ℤ) (before after : RwState) : Type 0 where
  joins : o ≡ name.RdLock → answer ≡ pos 0 → holds t before ≡ false → has_no_writer before ≡ true → after ≡ read_too t before → RwMove o t answer before after
  writes_alone : o ≡ name.WrLock → answer ≡ pos 0 → is_unheld before ≡ true → after ≡ written_by t before → RwMove o t answer before after
  lets_go : o ≡ name.RwUnlock → holds t before ≡ true → after ≡ let_go_by t before → RwMove o t answer before after
  stays : after ≡ before → RwMove o t answer before after

-- ---- by the table

moved : {S : Type 0} (x y : S) (a b : ℤ) → Moves x a ≡ Moves y b → (y ≡ x) × (b ≡ a)
moved x y a b e = (cc, cc)

rd_lock : (t : ℕ) (x s : RwState) (a : ℤ) → first_row (rows op.RdLock t) x ≡ Moves s a → RwMove name.RdLock t a x s
rd_lock t x s a e = by (holds t x) refl e
  where
    second : (b : Bool) → holds t x ≡ false → has_no_writer x ≡ b → (if b then Moves (read_too t x) done else NoRow) ≡ Moves s a → RwMove name.RdLock t a x s
    second true h w g = let r = moved (read_too t x) s done a g in joins refl r.1 h w r.0
    second false h w g = cc

    by : (b : Bool) → holds t x ≡ b → (if b then Moves x misuse else if has_no_writer x then Moves (read_too t x) done else NoRow) ≡ Moves s a → RwMove name.RdLock t a x s
    by true h g = stays (moved x s misuse a g).0
    by false h g = second (has_no_writer x) h refl g

wr_lock : (t : ℕ) (x s : RwState) (a : ℤ) → first_row (rows op.WrLock t) x ≡ Moves s a → RwMove name.WrLock t a x s
wr_lock t x s a e = by (holds t x) refl e
  where
    second : (b : Bool) → is_unheld x ≡ b → (if b then Moves (written_by t x) done else NoRow) ≡ Moves s a → RwMove name.WrLock t a x s
    second true w g = let r = moved (written_by t x) s done a g in writes_alone refl r.1 w r.0
    second false w g = cc

    by : (b : Bool) → holds t x ≡ b → (if b then Moves x misuse else if is_unheld x then Moves (written_by t x) done else NoRow) ≡ Moves s a → RwMove name.WrLock t a x s
    by true h g = stays (moved x s misuse a g).0
    by false h g = second (is_unheld x) refl g

rw_unlock : (t : ℕ) (x s : RwState) (a : ℤ) → first_row (rows op.RwUnlock t) x ≡ Moves s a → RwMove name.RwUnlock t a x s
rw_unlock t x s a e = by (holds t x) refl e
  where
    by : (b : Bool) → holds t x ≡ b → (if b then Moves (let_go_by t x) done else Moves x misuse) ≡ Moves s a → RwMove name.RwUnlock t a x s
    by true h g = lets_go refl h (moved (let_go_by t x) s done a g).0
    by false h g = stays (moved x s misuse a g).0

rw_init : (t : ℕ) (x s : RwState) (a : ℤ) → first_row (rows op.RwInit t) x ≡ Moves s a → RwMove name.RwInit t a x s
rw_init t x s a e = by (is_unheld x) e
  where
    by : (b : Bool) → (if b then Moves x done else Moves x misuse) ≡ Moves s a → RwMove name.RwInit t a x s
    by true g = stays (moved x s done a g).0
    by false g = stays (moved x s misuse a g).0

pub rw_move : (o : Op) (t : ℕ) (answer : ℤ) (w v : ℕ) → kind_of (name_of o) ≡ kind.Rw → first_row (rows o t) (shown (kind_of (name_of o)) w) ≡ Moves (shown (kind_of (name_of o)) v) answer → RwMove (name_of o) t answer (rw_in w) (rw_in v)
rw_move op.RdLock t answer w v k e = rd_lock t (rw_in w) (rw_in v) answer e
rw_move op.WrLock t answer w v k e = wr_lock t (rw_in w) (rw_in v) answer e
rw_move op.RwUnlock t answer w v k e = rw_unlock t (rw_in w) (rw_in v) answer e
rw_move op.RwInit t answer w v k e = rw_init t (rw_in w) (rw_in v) answer e
rw_move _ t answer w v k e = cc

-- ---- a writer has no readers

none_written : (x : RwState) → has_no_writer x ≡ true → IsExclusive x
none_written (Shared r Free) h = tt
none_written (Shared r (HeldBy u)) h = cc

still_none : (t : ℕ) (x : RwState) → has_no_writer x ≡ true → has_no_writer (read_too t x) ≡ true
still_none t (Shared r w) h = h

alone : (t : ℕ) (x : RwState) → is_unheld x ≡ true → IsExclusive (written_by t x)
alone t (Shared r w) h = eqb-true r 0 (and_parts (r == 0) (is_free w) h).0

-- who lets it go leaves no readers beside a writer
left : (t : ℕ) (x : RwState) → IsExclusive x → IsExclusive (let_go_by t x)
left t (Shared r Free) h = tt
left t (Shared r (HeldBy u)) h = by (u == t)
  where
    kept : (r / 2 ^ t % 2 == 1) ≡ false
    kept = ap (λ n. n / 2 ^ t % 2 == 1) h ∙ no_reader t

    by : (b : Bool) → IsExclusive (Shared (if r / 2 ^ t % 2 == 1 then r - 2 ^ t else r) (if b then Free else HeldBy u))
    by true = tt
    by false = cond-false (r / 2 ^ t % 2 == 1) (r - 2 ^ t) r kept ∙ h

pub exclusive_after : (o : OpName) (t : ℕ) (answer : ℤ) (x y : RwState) → RwMove o t answer x y → IsExclusive x → IsExclusive y
exclusive_after o t answer x y (joins a b c d e) h = subst IsExclusive (sym e) (none_written (read_too t x) (still_none t x d))
exclusive_after o t answer x y (writes_alone a b c e) h = subst IsExclusive (sym e) (alone t x c)
exclusive_after o t answer x y (lets_go a b e) h = subst IsExclusive (sym e) (left t x h)
exclusive_after o t answer x y (stays e) h = subst IsExclusive (sym e) h

-- ---- in two ways that exclude each other one thread alone holds it

writer_is : (t : ℕ) (w : LockState) → is_held_by t w ≡ true → w ≡ HeldBy t
writer_is t Free e = cc
writer_is t (HeldBy u) e = ap HeldBy (eqb-true u t e)

one_writer : (t u : ℕ) (w : LockState) → is_held_by t w ≡ true → is_held_by u w ≡ true → t ≡ u
one_writer t u w a b = let same : HeldBy t ≡ HeldBy u = sym (writer_is t w a) ∙ writer_is u w b in cc

-- beside a writer nobody else holds it in any way
beside_writer : (t u : ℕ) (x : RwState) → IsExclusive x → writes t x ≡ true → holds u x ≡ true → t ≡ u
beside_writer t u (Shared r Free) h a b = absurd (true≢false (sym a))
beside_writer t u (Shared r (HeldBy v)) h a b = by (r / 2 ^ u % 2 == 1) (ap (λ n. n / 2 ^ u % 2 == 1) h ∙ no_reader u) b
  where
    by : (c : Bool) → c ≡ false → (c || (v == u)) ≡ true → t ≡ u
    by true e g = cc
    by false e g = one_writer t u (HeldBy v) a g

pub writes_holds : (t : ℕ) (x : RwState) → writes t x ≡ true → holds t x ≡ true
writes_holds t x e = by (reads t x)
  where
    by : (b : Bool) → (b || writes t x) ≡ true
    by true = refl
    by false = e

pub one_holds_rw : (a b : Mode) (t u : ℕ) (x : RwState) → IsExclusive x → excludes a b ≡ true → holds_as a t x ≡ true → holds_as b u x ≡ true → t ≡ u
one_holds_rw Write Write t u x h e p q = beside_writer t u x h p (writes_holds u x q)
one_holds_rw Write Read t u x h e p q = beside_writer t u x h p q
one_holds_rw Read Write t u x h e p q = sym (beside_writer u t x h q p)
one_holds_rw Read Read t u x h e p q = cc

-- ---- who holds it before and after

or_false : (b : Bool) → (b || false) ≡ b
or_false true = refl
or_false false = refl

joined_writes : (t u : ℕ) (x : RwState) → writes u (read_too t x) ≡ writes u x
joined_writes t u (Shared r w) = refl

joined_reads : (t u : ℕ) (x : RwState) → u ≢ t → holds t x ≡ false → reads u (read_too t x) ≡ reads u x
joined_reads t u (Shared r w) ne h = joins_other t r u ne (not_or (r / 2 ^ t % 2 == 1) (is_held_by t w) h)
  where
    not_or : (a b : Bool) → (a || b) ≡ false → a ≡ false
    not_or true b e = cc
    not_or false b e = refl

written_writes : (t u : ℕ) (x : RwState) → u ≢ t → is_unheld x ≡ true → writes u (written_by t x) ≡ writes u x
written_writes t u (Shared r Free) ne h = ne_eqb t u (λ e. ne (sym e))
written_writes t u (Shared r (HeldBy v)) ne h = absurd (none (r == 0) h)
  where
    none : (b : Bool) → (b && false) ≡ true → ⊥
    none true e = cc
    none false e = cc

written_reads : (t u : ℕ) (x : RwState) → reads u (written_by t x) ≡ reads u x
written_reads t u (Shared r w) = refl

left_writes : (t u : ℕ) (x : RwState) → u ≢ t → writes u (let_go_by t x) ≡ writes u x
left_writes t u (Shared r Free) ne = refl
left_writes t u (Shared r (HeldBy v)) ne = by (v == t) refl
  where
    by : (b : Bool) → v == t ≡ b → is_held_by u (if b then Free else HeldBy v) ≡ (v == u)
    by true e = let same = eqb-true v t e in sym (ne_eqb v u (λ g. ne (sym g ∙ same)))
    by false e = refl

left_reads : (t u : ℕ) (x : RwState) → u ≢ t → reads u (let_go_by t x) ≡ reads u x
left_reads t u (Shared r w) ne = by (r / 2 ^ t % 2 == 1) refl
  where
    by : (b : Bool) → (r / 2 ^ t % 2 == 1) ≡ b → ((if b then r - 2 ^ t else r) / 2 ^ u % 2 == 1) ≡ (r / 2 ^ u % 2 == 1)
    by true e = leaves_other t r u ne e
    by false e = refl

both_same : (a : Mode) (u : ℕ) (x y : RwState) → writes u y ≡ writes u x → reads u y ≡ reads u x → holds_as a u y ≡ holds_as a u x
both_same Write u x y p q = p
both_same Read u x y p q = ap (λ b. b || writes u y) q ∙ ap (λ b. reads u x || b) p

-- an operation changes nothing for other threads
pub others_hold : (o : OpName) (t : ℕ) (answer : ℤ) (x y : RwState) (a : Mode) (u : ℕ) → RwMove o t answer x y → u ≢ t → holds_as a u y ≡ holds_as a u x
others_hold o t answer x y a u (joins e f g h i) ne = ap (holds_as a u) i ∙ both_same a u x (read_too t x) (joined_writes t u x) (joined_reads t u x ne g)
others_hold o t answer x y a u (writes_alone e f g i) ne = ap (holds_as a u) i ∙ both_same a u x (written_by t x) (written_writes t u x ne g) (written_reads t u x)
others_hold o t answer x y a u (lets_go e f i) ne = ap (holds_as a u) i ∙ both_same a u x (let_go_by t x) (left_writes t u x ne) (left_reads t u x ne)
others_hold o t answer x y a u (stays i) ne = ap (holds_as a u) i

-- ---- who gets it, and who lets it go

-- the thread that holds it no longer in this way has let it go
pub record LetsGo (o : OpName) (t : ℕ) (x : RwState) (a : Mode) (u : ℕ) : Type 0 where
  pub own : u ≡ t
  pub name : o ≡ name.RwUnlock
  pub holds : holds_as a t x ≡ true

grown : (t : ℕ) (x : RwState) (a : Mode) → holds_as a t x ≡ true → holds t x ≡ false → ⊥
grown t x Write p q = true≢false (sym (writes_holds t x p) ∙ q)
grown t x Read p q = true≢false (sym p ∙ q)

unheld_none : (t : ℕ) (x : RwState) → is_unheld x ≡ true → holds t x ≡ false
unheld_none t (Shared r Free) h =
    or_false (r / 2 ^ t % 2 == 1) ∙ ap (λ n. n / 2 ^ t % 2 == 1) (eqb-true r 0 (and_parts (r == 0) true h).0) ∙ no_reader t
unheld_none t (Shared r (HeldBy v)) h = absurd (none (r == 0) h)
  where
    none : (b : Bool) → (b && false) ≡ true → ⊥
    none true e = cc
    none false e = cc

pub lets_go_by : (o : OpName) (t : ℕ) (answer : ℤ) (x y : RwState) (a : Mode) (u : ℕ) → RwMove o t answer x y → holds_as a u x ≡ true → holds_as a u y ≡ false → LetsGo o t x a u
lets_go_by o t answer x y a u m was isnt = ⊎_elim (λ same. own same m) (λ ne. absurd (true≢false (sym was ∙ sym (others_hold o t answer x y a u m ne) ∙ isnt))) (cases_eq u t)
  where
    own : u ≡ t → RwMove o t answer x y → LetsGo o t x a u
    own same (joins e f g h i) = absurd (grown t x a (ap (λ n. holds_as a n x) (sym same) ∙ was) g)
    own same (writes_alone e f g i) = absurd (grown t x a (ap (λ n. holds_as a n x) (sym same) ∙ was) (unheld_none t x g))
    own same (lets_go e f i) = record { own = same; name = e; holds = ap (λ n. holds_as a n x) (sym same) ∙ was }
    own same (stays i) = absurd (true≢false (sym was ∙ sym (ap (holds_as a u) i) ∙ isnt))

-- the thread that newly holds it in this way has got it, for reading or for writing
pub data Gets (o : OpName) (t : ℕ) (answer : ℤ) (a : Mode) (u : ℕ) : Type 0 where
  to_read : u ≡ t → o ≡ name.RdLock → answer ≡ pos 0 → a ≡ Read → Gets o t answer a u
  to_write : u ≡ t → o ≡ name.WrLock → answer ≡ pos 0 → Gets o t answer a u

-- nothing is newly held by who lets it go
left_own : (t : ℕ) (x : RwState) (a : Mode) → IsExclusive x → holds_as a t x ≡ false → holds_as a t (let_go_by t x) ≡ false
left_own t (Shared r w) Write h e = by w e
  where
    by : (v : LockState) → is_held_by t v ≡ false → is_held_by t (if is_held_by t v then Free else v) ≡ false
    by Free q = refl
    by (HeldBy n) q = ap (λ b. is_held_by t (if b then Free else HeldBy n)) q ∙ q
left_own t (Shared r w) Read h e = by (r / 2 ^ t % 2 == 1) (is_held_by t w) refl refl e
  where
    by : (b c : Bool) → (r / 2 ^ t % 2 == 1) ≡ b → is_held_by t w ≡ c → (b || c) ≡ false → (((if b then r - 2 ^ t else r) / 2 ^ t % 2 == 1) || is_held_by t (if c then Free else w)) ≡ false
    by true c f g q = cc
    by false true f g q = cc
    by false false f g q = ap (λ b. b || is_held_by t w) f ∙ g

pub gets_by : (o : OpName) (t : ℕ) (answer : ℤ) (x y : RwState) (a : Mode) (u : ℕ) → RwMove o t answer x y → IsExclusive x → holds_as a u x ≡ false → holds_as a u y ≡ true → Gets o t answer a u
gets_by o t answer x y a u m h wasnt now = ⊎_elim (λ same. own same m) (λ ne. absurd (true≢false (sym now ∙ others_hold o t answer x y a u m ne ∙ wasnt))) (cases_eq u t)
  where
    reading : (b : Mode) → b ≡ a → y ≡ read_too t x → b ≡ Read
    reading Read e i = refl
    reading Write e i =
        absurd (true≢false (sym (ap (λ c. holds_as c u y) e ∙ now) ∙ ap (writes u) i ∙ joined_writes t u x ∙ ap (λ c. holds_as c u x) e ∙ wasnt))

    own : u ≡ t → RwMove o t answer x y → Gets o t answer a u
    own same (joins e f g k i) = to_read same e f (reading a refl i)
    own same (writes_alone e f g i) = to_write same e f
    own same (lets_go e f i) =
        absurd (true≢false (sym (ap (λ n. holds_as a n y) (sym same) ∙ now) ∙ ap (holds_as a t) i ∙ left_own t x a h (ap (λ n. holds_as a n x) (sym same) ∙ wasnt)))
    own same (stays i) = absurd (true≢false (sym now ∙ ap (holds_as a u) i ∙ wasnt))

-- ---- a lock that is no misuse is got

own_reads : (t : ℕ) (x : RwState) → holds t x ≡ false → reads t (read_too t x) ≡ true
own_reads t (Shared r w) h = joins_own t r (not_or (r / 2 ^ t % 2 == 1) (is_held_by t w) h)
  where
    not_or : (a b : Bool) → (a || b) ≡ false → a ≡ false
    not_or true b e = cc
    not_or false b e = refl

own_writes : (t : ℕ) (x : RwState) → writes t (written_by t x) ≡ true
own_writes t (Shared r w) = eq-eqb t t refl

misused : (a : ℤ) → misuse ≡ a → is_misuse a ≡ false → ⊥
misused a e h = true≢false (sym (ap is_misuse (sym e)) ∙ h)

pub read_got : (mode : Mode) (t : ℕ) (answer : ℤ) (x y : RwState) → covers Read mode ≡ true → first_row (rows op.RdLock t) x ≡ Moves y answer → is_misuse answer ≡ false → holds_as mode t y ≡ true
read_got Write t answer x y c e h = cc
read_got Read t answer x y c e h = by (holds t x) refl e
  where
    second : (b : Bool) → holds t x ≡ false → (if b then Moves (read_too t x) done else NoRow) ≡ Moves y answer → holds t y ≡ true
    second true n g = ap (holds t) (moved (read_too t x) y done answer g).0 ∙ ap (λ b. b || writes t (read_too t x)) (own_reads t x n)
    second false n g = cc

    by : (b : Bool) → holds t x ≡ b → (if b then Moves x misuse else if has_no_writer x then Moves (read_too t x) done else NoRow) ≡ Moves y answer → holds t y ≡ true
    by true n g = absurd (misused answer (sym (moved x y misuse answer g).1) h)
    by false n g = second (has_no_writer x) n g

pub write_got : (mode : Mode) (t : ℕ) (answer : ℤ) (x y : RwState) → first_row (rows op.WrLock t) x ≡ Moves y answer → is_misuse answer ≡ false → holds_as mode t y ≡ true
write_got mode t answer x y e h = in_mode mode (by (holds t x) e)
  where
    in_mode : (m : Mode) → writes t y ≡ true → holds_as m t y ≡ true
    in_mode Write w = w
    in_mode Read w = writes_holds t y w

    second : (b : Bool) → (if b then Moves (written_by t x) done else NoRow) ≡ Moves y answer → writes t y ≡ true
    second true g = ap (writes t) (moved (written_by t x) y done answer g).0 ∙ own_writes t x
    second false g = cc

    by : (b : Bool) → (if b then Moves x misuse else if is_unheld x then Moves (written_by t x) done else NoRow) ≡ Moves y answer → writes t y ≡ true
    by true g = absurd (misused answer (sym (moved x y misuse answer g).1) h)
    by false g = second (is_unheld x) g
