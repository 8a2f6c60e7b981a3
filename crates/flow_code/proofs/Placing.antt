-- The objects of a function's first instructions, from any of these on.
use Rattle.std.proofs.Common.{◌≡◌, ℕ, ◌+◌, ◌%◌, ◌^◌, ◌<◌, List, [], ◌∷◌, length, drop, get_or, Some, refl, sym, ◌∙◌, ap, arith, add-one, slice_set}
use Rattle.std.proofs.Math.Seq.{drop-cons}
use Rattle.rr_base.specs.declared.layout.Site.{Site}
use Rattle.flow_code.specs.declared.act.Instr.{Instr}
use Rattle.word_semantics.specs.Pointers.{pointer_at}
use Rattle.flow_code.specs.Threads.{Object, object, object_of, and_objects, objects_of, placed}
use Rattle.word_semantics.specs.Cells.{size_of}

-- what stands at a place, and what comes after it
objects_from : (is : List Instr) (k : ℕ) (i : Instr) → i ≡ get_or is k i → k < length is → objects_of (drop k is) ≡ and_objects (object_of i.act) (objects_of (drop (k + 1) is))
objects_from is k i e h = rw (add-one, drop-cons is k i) (rw (← e) refl)

objects_go : (is : List Instr) (k : ℕ) (i : Instr) (o : Object) → i ≡ get_or is k i → k < length is → object_of i.act ≡ Some o → objects_of (drop k is) ≡ o ∷ objects_of (drop (k + 1) is)
objects_go is k i o e h n = objects_from is k i e h ∙ ap (λ o. and_objects o (objects_of (drop (k + 1) is))) n

-- a pointer's base counts up to 2 ^ 32
pointer_at-same : (site a b cells : ℕ) → a % 2 ^ 32 ≡ b % 2 ^ 32 → pointer_at site a cells ≡ pointer_at site b cells
pointer_at-same site a b cells e = omega arith

moved-same : (a b size : ℕ) → a % 2 ^ 32 ≡ b % 2 ^ 32 → (a + size) % 2 ^ 32 ≡ (b + size) % 2 ^ 32
moved-same a b size e = omega arith

placed-same : (sites : List Site) (os : List Object) (a b : ℕ) (registers : List ℕ) → a % 2 ^ 32 ≡ b % 2 ^ 32 → placed sites os a registers ≡ placed sites os b registers
placed-same sites [] a b registers e = refl
placed-same sites (object into site ∷ os) a b registers e =
    placed-same sites os _ _ _ (moved-same a b (size_of sites site) e)
    ∙ ap (λ w. placed sites os (b + size_of sites site) (slice_set registers into w)) (pointer_at-same site a b (size_of sites site) e)

placed-wraps : (sites : List Site) (os : List Object) (a : ℕ) (registers : List ℕ) → placed sites os (a % 2 ^ 32) registers ≡ placed sites os a registers
placed-wraps sites os a registers = placed-same sites os (a % 2 ^ 32) a registers (omega arith)

-- one object more has its pointer
pub placed_step : (sites : List Site) (is : List Instr) (k : ℕ) (i : Instr) (into site at size w : ℕ) (rs rs2 all : List ℕ)
    → i ≡ get_or is k i → k < length is → object_of i.act ≡ Some (object into site)
    → size ≡ size_of sites site → w ≡ pointer_at site at size → rs2 ≡ slice_set rs into w
    → placed sites (objects_of (drop k is)) at rs ≡ all
    → placed sites (objects_of (drop (k + 1) is)) ((at + size) % 2 ^ 32) rs2 ≡ all
placed_step sites is k i into site at size w rs rs2 all e h o s p r given =
    let rest = objects_of (drop (k + 1) is) in
    let here = ap (λ os. placed sites os at rs) (objects_go is k i (object into site) e h o) in
    let wraps = placed-wraps sites rest (at + size) rs2 in
    let same : placed sites rest (at + size) rs2 ≡ placed sites rest (at + size_of sites site) (slice_set rs into (pointer_at site at (size_of sites site))) = cc in
    wraps ∙ same ∙ sym here ∙ given
