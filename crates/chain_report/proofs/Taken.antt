-- Where an operation of a walk passes to another, the entry that it is passes to that of the other.
use Rattle.std.proofs.Common.{◌≡◌, ◌≢◌, ℕ, ◌/◌, ◌%◌, ◌^◌, ◌<◌, nat_lt, ◌==◌, ◌&&◌, ◌||◌, ◌⊎◌, inl, inr, ⊎_elim, Bool, true, false, if◌then◌else◌, List, [], ◌∷◌, length, take, Option, Some, None, refl, sym, ap, subst, ◌∙◌, ℤ, pos}
use Rattle.std.proofs.lemmas.Bool.{true≢false, cond-true}
use Rattle.sync_objects.specs.Packing.{shown}
use Rattle.sync_objects.specs.States.{RwState, Shared, Free, HeldBy, LockState, is_held_by, reads, writes, holds, has_no_writer, is_unheld, read_too, written_by}
use Rattle.sync_objects.specs.Table.{Move, NoRow, Moves, first_row, rows, done, misuse}
use Rattle.sync_objects.specs.declared.mode.Mode.{Mode}
use Rattle.sync_objects.specs.declared.mode.Mode.TheVariants.{Read, Write}
use Rattle.sync_objects.specs.declared.operation.Op.TheVariants as op
use Rattle.sync_objects.proofs.RowsOf.{try_lock_rows}
use Rattle.lock_ownership.specs.Holders.{IsExclusive}
use Rattle.lock_ownership.proofs.RwBits.{no_reader}
use Rattle.chain_report.proofs.LockMoves.{as_lock, HoldIs, is_writing, is_held}

-- who got a mutex by a trylock found it free
pub free_before : (t : ℕ) (x y : LockState) (h : Option ℕ) → first_row (rows op.TryLock t) x ≡ Moves y (pos 0) → x ≡ as_lock h → h ≡ None
free_before t x y None e was = refl
free_before t x y (Some u) e was =
    ⊎_elim
    (λ r. let no : HeldBy u ≡ Free = sym was ∙ r.0 in absurd cc)
    (λ r. absurd cc)
    (try_lock_rows t x y (pos 0) e)

not_done : (x y : RwState) → Moves x misuse ≡ Moves y (pos 0) → ⊥
not_done x y e = cc

-- who got a read-write lock with answer 0 didn't hold it
pub unheld_by_reader : (t : ℕ) (x y : RwState) (h : Option Mode) → first_row (rows op.RdLock t) x ≡ Moves y (pos 0) → HoldIs t x h → h ≡ None
unheld_by_reader t x y None e was = refl
unheld_by_reader t x y (Some m) e was = absurd (not_done x y (sym (cond-true (holds t x) (Moves x misuse) (if has_no_writer x then Moves (read_too t x) done else NoRow) was.held) ∙ e))

pub unheld_by_writer : (t : ℕ) (x y : RwState) (h : Option Mode) → first_row (rows op.WrLock t) x ≡ Moves y (pos 0) → HoldIs t x h → h ≡ None
unheld_by_writer t x y None e was = refl
unheld_by_writer t x y (Some m) e was = absurd (not_done x y (sym (cond-true (holds t x) (Moves x misuse) (if is_unheld x then Moves (written_by t x) done else NoRow) was.held) ∙ e))

-- who writes holds it for writing
pub written_so : (t : ℕ) (x : RwState) (h : Option Mode) → HoldIs t x h → writes t x ≡ true → h ≡ Some Write
written_so t x None was e = absurd (true≢false (sym e ∙ was.writing))
written_so t x (Some Read) was e = absurd (true≢false (sym e ∙ was.writing))
written_so t x (Some Write) was e = refl

no_readers : (t : ℕ) (x : RwState) → IsExclusive x → writes t x ≡ true → reads t x ≡ true → ⊥
no_readers t (Shared r Free) alone w e = cc
no_readers t (Shared r (HeldBy u)) alone w e = true≢false (sym e ∙ ap (λ n. n / 2 ^ t % 2 == 1) alone ∙ no_reader t)

reading_holds : (t : ℕ) (x : RwState) → reads t x ≡ true → holds t x ≡ true
reading_holds t x e = ap (λ b. b || writes t x) e

-- and who reads holds it for reading
pub read_so : (t : ℕ) (x : RwState) (h : Option Mode) → IsExclusive x → HoldIs t x h → reads t x ≡ true → h ≡ Some Read
read_so t x None alone was e = absurd (true≢false (sym (reading_holds t x e) ∙ was.held))
read_so t x (Some Read) alone was e = refl
read_so t x (Some Write) alone was e = absurd (no_readers t x alone was.writing e)
