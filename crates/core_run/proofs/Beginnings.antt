-- The words at the start: those of cells, and after them each object's start word at its place.
use Rattle.std.proofs.Common.{◌≡◌, ℕ, zero, suc, ◌+◌, ◌*◌, ◌<◌, true, nat_lt, List, [], ◌∷◌, ◌++◌, length, replicate, Option, Some, refl, sym, ap, ◌∙◌, arith, append_assoc, length-append}
use Rattle.std.specs.Prelude.{slice_get}
use Rattle.std.proofs.lemmas.Bool.{ltb-true, and_parts}
use Rattle.std.proofs.lemmas.List.{length-replicate}
use Rattle.sync_objects.specs.Setup.{SetupView, IsWithinLimits}
use Rattle.sync_objects.specs.Start.{packed_start, start_word}
use Rattle.sync_objects.specs.Words.{number_of, word_of}
use Rattle.sync_objects.specs.declared.object.ObjId.{ObjId}
use Rattle.sync_objects.specs.declared.object.ObjId.TheVariants as object
use Rattle.sync_objects.proofs.Starts.{starts-Mutex, starts-Cond, starts-Barrier, starts-Rw, starts-Weak, starts-other_slot}
use Rattle.sync_objects.proofs.Packings.{number_of-word_of}
use Rattle.rr_base.specs.declared.layout.CellKind.{CellKind}
use Rattle.rr_base.proofs.Lists.{slice_get-append_left, slice_get-append_right}
use Rattle.flow_code.specs.declared.code.Code.{Code}
use Rattle.core_run.specs.Words.{cells_of, has_object, place_of, start_globals, start_cells, start_objects, start_words}

-- how many words there are

globals_length : (slots : ℕ) (ks : List CellKind) (ws : List ℕ) → length (start_globals slots ks ws) ≡ length ws
globals_length slots [] ws = refl
globals_length slots (k ∷ ks) [] = refl
globals_length slots (k ∷ ks) (w ∷ ws) = ap suc (globals_length slots ks ws)

pub length-start_cells : (code : Code) (s : SetupView) → length (start_cells code s) ≡ cells_of code s
length-start_cells code s =
    let hands : List ℕ = replicate (2 * s.slots) 0 in
    let globals : List ℕ = start_globals s.slots code.global_kinds code.globals in
    let arenas : List ℕ = replicate (s.slots * s.cells) 0 in
    let a : length (start_cells code s) ≡ length (hands ++ globals) + length arenas = length-append (hands ++ globals) arenas in
    let b : length (hands ++ globals) ≡ length hands + length globals = length-append hands globals in
    let c : length hands ≡ 2 * s.slots = length-replicate (2 * s.slots) 0 in
    let d : length arenas ≡ s.slots * s.cells = length-replicate (s.slots * s.cells) 0 in
    let g : length globals ≡ length code.globals = globals_length s.slots code.global_kinds code.globals in
    omega arith

-- the first objects after those of cells: the slots, and those of which there is one
abbrev slot_words : List ℕ
slot_words = start_word (object.Slot 0) ∷ replicate 15 0

abbrev single_words : List ℕ
single_words = start_word object.Threads ∷ start_word object.Halt ∷ start_word object.Input ∷ start_word object.Output ∷ []

abbrev words_past : Code → List ℕ
words_past code = (slot_words ++ single_words) ++ replicate (8 * length code.locks) 0

objects_are : (code : Code) (s : SetupView) → start_objects code s ≡ replicate (4 * cells_of code s) 0 ++ words_past code
objects_are code s =
    ap (λ (ws : List ℕ). ws ++ replicate (8 * length code.locks) 0) (append_assoc (replicate (4 * cells_of code s) 0) slot_words single_words)
    ∙ append_assoc (replicate (4 * cells_of code s) 0) (slot_words ++ single_words) (replicate (8 * length code.locks) 0)

pub length-start_words : (code : Code) (s : SetupView) → length (start_words code s) ≡ 5 * cells_of code s + 20 + 8 * length code.locks
length-start_words code s =
    let zeros : List ℕ = replicate (4 * cells_of code s) 0 in
    let stripes : List ℕ = replicate (8 * length code.locks) 0 in
    let a : length (start_words code s) ≡ length (start_cells code s) + length (start_objects code s) = length-append (start_cells code s) (start_objects code s) in
    let b = length-start_cells code s in
    let o : length (start_objects code s) ≡ length (zeros ++ words_past code) = ap length (objects_are code s) in
    let c : length (zeros ++ words_past code) ≡ length zeros + length (words_past code) = length-append zeros (words_past code) in
    let d : length (words_past code) ≡ 20 + length stripes = length-append (slot_words ++ single_words) stripes in
    let e : length zeros ≡ 4 * cells_of code s = length-replicate (4 * cells_of code s) 0 in
    let f : length stripes ≡ 8 * length code.locks = length-replicate (8 * length code.locks) 0 in
    omega arith

-- what stands at an object's place

get_replicate : (n i : ℕ) → i < n → slice_get {X = ℕ} (replicate n 0) i ≡ Some 0
get_replicate zero i h = absurd (omega arith)
get_replicate (suc n) zero h = refl
get_replicate (suc n) (suc i) h = get_replicate n i (omega arith)

-- after the cells
following : (code : Code) (s : SetupView) (n : ℕ) (o : Option ℕ) → slice_get (start_objects code s) n ≡ o → slice_get (start_words code s) (cells_of code s + n) ≡ o
following code s n o e = ap (λ k. slice_get (start_words code s) (k + n)) (sym (length-start_cells code s)) ∙ slice_get-append_right (start_cells code s) (start_objects code s) n ∙ e

-- an object of a cell has the word 0
at_cell : (code : Code) (s : SetupView) (n : ℕ) → n < 4 * cells_of code s → slice_get (start_words code s) (cells_of code s + n) ≡ Some 0
at_cell code s n h =
    let zeros : List ℕ = replicate (4 * cells_of code s) 0 in
    let len : length zeros ≡ 4 * cells_of code s = length-replicate (4 * cells_of code s) 0 in
    following code s n (Some 0) (ap (λ ws. slice_get ws n) (objects_are code s) ∙ slice_get-append_left zeros (words_past code) n (omega arith) ∙ get_replicate (4 * cells_of code s) n h)

-- after the objects of cells
after_cells : (code : Code) (s : SetupView) (n : ℕ) (o : Option ℕ) → slice_get (words_past code) n ≡ o → slice_get (start_words code s) (5 * cells_of code s + n) ≡ o
after_cells code s n o e =
    let zeros : List ℕ = replicate (4 * cells_of code s) 0 in
    let place : 5 * cells_of code s + n ≡ cells_of code s + (4 * cells_of code s + n) = omega arith in
    let len : 4 * cells_of code s ≡ length zeros = sym (length-replicate (4 * cells_of code s) 0) in
    ap (slice_get (start_words code s)) place
    ∙ following code s (4 * cells_of code s + n) o (ap (λ ws. slice_get ws (4 * cells_of code s + n)) (objects_are code s) ∙ ap (λ k. slice_get (zeros ++ words_past code) (k + n)) len ∙ slice_get-append_right zeros (words_past code) n ∙ e)

zero_word : (n : ℕ) → n ≡ 0 → Some 0 ≡ Some (word_of 0 n)
zero_word n e = ap (λ k. Some (word_of 0 k)) (sym e)

-- an idle slot has the word 0
slot_word : (code : Code) (k : ℕ) → k < 15 → slice_get (words_past code) (suc k) ≡ Some 0
slot_word code k h =
    slice_get-append_left (slot_words ++ single_words) (replicate (8 * length code.locks) 0) (suc k) (omega arith) ∙ slice_get-append_left slot_words single_words (suc k) (omega arith) ∙ get_replicate 15 k h

pub start_word_at : (code : Code) (s : SetupView) (o : ObjId) → IsWithinLimits s → has_object code s o ≡ true → slice_get (start_words code s) (place_of (cells_of code s) o) ≡ Some (start_word o)
start_word_at code s (object.Mutex cell) l h = let lt = ltb-true cell (cells_of code s) h in at_cell code s cell (omega arith) ∙ zero_word (packed_start (object.Mutex cell)) (starts-Mutex cell)
start_word_at code s (object.Cond cell) l h =
    let lt = ltb-true cell (cells_of code s) h in
    let place : 2 * cells_of code s + cell ≡ cells_of code s + (cells_of code s + cell) = omega arith in
    ap (slice_get (start_words code s)) place ∙ at_cell code s (cells_of code s + cell) (omega arith) ∙ zero_word (packed_start (object.Cond cell)) (starts-Cond cell)
start_word_at code s (object.Barrier cell) l h =
    let lt = ltb-true cell (cells_of code s) h in
    let place : 3 * cells_of code s + cell ≡ cells_of code s + (2 * cells_of code s + cell) = omega arith in
    ap (slice_get (start_words code s)) place ∙ at_cell code s (2 * cells_of code s + cell) (omega arith) ∙ zero_word (packed_start (object.Barrier cell)) (starts-Barrier cell)
start_word_at code s (object.Rw cell) l h =
    let lt = ltb-true cell (cells_of code s) h in
    let place : 4 * cells_of code s + cell ≡ cells_of code s + (3 * cells_of code s + cell) = omega arith in
    ap (slice_get (start_words code s)) place ∙ at_cell code s (3 * cells_of code s + cell) (omega arith) ∙ zero_word (packed_start (object.Rw cell)) (starts-Rw cell)
start_word_at code s (object.Slot zero) l h = after_cells code s 0 (Some (start_word (object.Slot 0))) refl
start_word_at code s (object.Slot (suc k)) l h =
    let lt = ltb-true (suc k) s.slots h in
    let few = l.few_slots in
    after_cells code s (suc k) (Some 0) (slot_word code k (omega arith)) ∙ zero_word (packed_start (object.Slot (suc k))) (starts-other_slot (suc k) (λ e. absurd (omega arith)))
start_word_at code s object.Threads l h = after_cells code s 16 (Some (start_word object.Threads)) refl
start_word_at code s object.Halt l h = after_cells code s 17 (Some (start_word object.Halt)) refl
start_word_at code s object.Input l h = after_cells code s 18 (Some (start_word object.Input)) refl
start_word_at code s object.Output l h = after_cells code s 19 (Some (start_word object.Output)) refl
start_word_at code s (object.Weak lock stripe) l h =
    let parts = and_parts (nat_lt lock (length code.locks)) (nat_lt stripe 8) h in
    let low = ltb-true lock (length code.locks) parts.0 in
    let few = ltb-true stripe 8 parts.1 in
    let n = 8 * lock + stripe in
    let place : 5 * cells_of code s + 20 + 8 * lock + stripe ≡ 5 * cells_of code s + (20 + n) = omega arith in
    ap (slice_get (start_words code s)) place
    ∙ after_cells code s (20 + n) (Some 0) (slice_get-append_right (slot_words ++ single_words) (replicate (8 * length code.locks) 0) n ∙ get_replicate (8 * length code.locks) n (omega arith))
    ∙ zero_word (packed_start (object.Weak lock stripe)) (starts-Weak lock stripe)

-- no object has had an operation
pub start_number : (o : ObjId) → number_of (start_word o) ≡ 0
start_number o = number_of-word_of 0 (packed_start o)
