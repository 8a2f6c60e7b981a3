-- The words of objects stand after those of cells, each at a place of its own.
use Rattle.std.proofs.Common.{◌≡◌, ℕ, zero, suc, ◌+◌, ◌*◌, ◌-◌, ◌/◌, ◌%◌, ◌<◌, ◌≤◌, true, if◌then◌else◌, nat_lt, length, sym, ap, ◌∙◌, arith}
use Rattle.std.proofs.lemmas.Bool.{ltb-true, lt-ltb, le-ltb, and_parts, cond-true, cond-false}
use Rattle.sync_objects.specs.Setup.{SetupView, IsWithinLimits}
use Rattle.sync_objects.specs.declared.object.ObjId.{ObjId}
use Rattle.sync_objects.specs.declared.object.ObjId.TheVariants as object
use Rattle.flow_code.specs.declared.code.Code.{Code}
use Rattle.core_run.specs.Words.{cells_of, has_object, place_of}

pub place_past : (cells : ℕ) (o : ObjId) → cells ≤ place_of cells o
place_past cells (object.Mutex cell) = omega arith
place_past cells (object.Cond cell) = omega arith
place_past cells (object.Barrier cell) = omega arith
place_past cells (object.Rw cell) = omega arith
place_past cells (object.Weak lock stripe) = omega arith
place_past cells (object.Slot k) = omega arith
place_past cells object.Threads = omega arith
place_past cells object.Halt = omega arith
place_past cells object.Input = omega arith
place_past cells object.Output = omega arith

-- the object of a place

abbrev single : ℕ → ObjId
single zero = object.Threads
single (suc zero) = object.Halt
single (suc (suc zero)) = object.Input
single (suc (suc (suc n))) = object.Output

-- the object after those of cells
abbrev other : ℕ → ObjId
other n = if nat_lt n 16 then object.Slot n else (if nat_lt n 20 then single (n - 16) else object.Weak ((n - 20) / 8) ((n - 20) % 8))

abbrev object_at : ℕ → ℕ → ObjId
object_at cells p =
    if nat_lt p (2 * cells) then object.Mutex (p - cells)
    else if nat_lt p (3 * cells) then object.Cond (p - 2 * cells)
    else if nat_lt p (4 * cells) then object.Barrier (p - 3 * cells)
    else if nat_lt p (5 * cells) then object.Rw (p - 4 * cells)
    else other (p - 5 * cells)

below : {A : Type 0} (m n : ℕ) (x y : A) → m < n → (if nat_lt m n then x else y) ≡ x
below m n x y h = cond-true (nat_lt m n) x y (lt-ltb m n h)

above : {A : Type 0} (m n : ℕ) (x y : A) → n ≤ m → (if nat_lt m n then x else y) ≡ y
above m n x y h = cond-false (nat_lt m n) x y (le-ltb m n h)

after_cells : (cells n : ℕ) → object_at cells (5 * cells + n) ≡ other n
after_cells cells n =
    let p = 5 * cells + n in
    let left : p - 5 * cells ≡ n = omega arith in
    above p (2 * cells) _ _ (omega arith) ∙ above p (3 * cells) _ _ (omega arith) ∙ above p (4 * cells) _ _ (omega arith) ∙ above p (5 * cells) _ _ (omega arith) ∙ ap other left

pub object_at_place : (code : Code) (s : SetupView) (o : ObjId) → IsWithinLimits s → has_object code s o ≡ true → object_at (cells_of code s) (place_of (cells_of code s) o) ≡ o
object_at_place code s (object.Mutex cell) l h = let lt = ltb-true cell (cells_of code s) h in below (cells_of code s + cell) (2 * cells_of code s) _ _ (omega arith) ∙ ap object.Mutex (omega arith)
object_at_place code s (object.Cond cell) l h =
    let lt = ltb-true cell (cells_of code s) h in
    above (2 * cells_of code s + cell) (2 * cells_of code s) _ _ (omega arith) ∙ below (2 * cells_of code s + cell) (3 * cells_of code s) _ _ (omega arith) ∙ ap object.Cond (omega arith)
object_at_place code s (object.Barrier cell) l h =
    let lt = ltb-true cell (cells_of code s) h in
    above (3 * cells_of code s + cell) (2 * cells_of code s) _ _ (omega arith) ∙ above (3 * cells_of code s + cell) (3 * cells_of code s) _ _ (omega arith)
    ∙ below (3 * cells_of code s + cell) (4 * cells_of code s) _ _ (omega arith) ∙ ap object.Barrier (omega arith)
object_at_place code s (object.Rw cell) l h =
    let lt = ltb-true cell (cells_of code s) h in
    above (4 * cells_of code s + cell) (2 * cells_of code s) _ _ (omega arith) ∙ above (4 * cells_of code s + cell) (3 * cells_of code s) _ _ (omega arith)
    ∙ above (4 * cells_of code s + cell) (4 * cells_of code s) _ _ (omega arith) ∙ below (4 * cells_of code s + cell) (5 * cells_of code s) _ _ (omega arith) ∙ ap object.Rw (omega arith)
object_at_place code s (object.Slot k) l h =
    let lt = ltb-true k s.slots h in
    let few = l.few_slots in
    after_cells (cells_of code s) k ∙ below k 16 _ _ (omega arith)
object_at_place code s object.Threads l h = after_cells (cells_of code s) 16
object_at_place code s object.Halt l h = after_cells (cells_of code s) 17
object_at_place code s object.Input l h = after_cells (cells_of code s) 18
object_at_place code s object.Output l h = after_cells (cells_of code s) 19
object_at_place code s (object.Weak lock stripe) l h =
    let lt = ltb-true stripe 8 (and_parts (nat_lt lock (length code.locks)) (nat_lt stripe 8) h).1 in
    let n = 20 + 8 * lock + stripe in
    ap (object_at (cells_of code s)) (omega arith) ∙ after_cells (cells_of code s) n ∙ above n 16 _ _ (omega arith) ∙ above n 20 _ _ (omega arith)
    ∙ ap (λ k. object.Weak k ((n - 20) % 8)) (omega arith) ∙ ap (object.Weak lock) (omega arith)

-- equal places are those of one object
pub place_apart : (code : Code) (s : SetupView) (o p : ObjId) → IsWithinLimits s → has_object code s o ≡ true → has_object code s p ≡ true → place_of (cells_of code s) o ≡ place_of (cells_of code s) p → o ≡ p
place_apart code s o p l h k e = sym (object_at_place code s o l h) ∙ ap (object_at (cells_of code s)) e ∙ object_at_place code s p l k
