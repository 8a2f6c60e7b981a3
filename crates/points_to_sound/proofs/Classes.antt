-- Words of numbers, and the class of a pointer after a move.
use Rattle.std.proofs.Common.{◌≡◌, ℕ, suc, ◌+◌, ◌*◌, ◌/◌, ◌%◌, ◌^◌, ◌<◌, ◌≤◌, nat_lt, Bool, true, false, if◌then◌else◌, refl, sym, ap, ◌∙◌, ℤ, pos, negsuc, ◌+ℤ◌, ◌*ℤ◌, arith, eqb-true, to_z-of_z}
use Rattle.std.specs.Prelude.{unsigned_abs, FitsSigned}
use Rattle.std.specs.Int.{int_rem_euclid}
use mir.Syntax.{w64}
use Rattle.std.proofs.lemmas.Bool.{ltb-true}
use Rattle.std.proofs.lemmas.Int.{ints, int_rem_euclid_is, of_z-to_z}
use Rattle.std.proofs.lemmas.Nat.{div-add-mod'}
use Rattle.rr_base.specs.Words.{class_of}
use Rattle.word_semantics.specs.Values.{number, word, fits}
use Rattle.facts.specs.PointsTo.{classes_of, class_on, are_whole_elements}

-- ---- numbers in words

pub word_number : (w : ℕ) → w < 2 ^ 64 → word (number w) ≡ w
word_number w h = of_z-to_z w64 w h

fits_signed : (z : ℤ) → fits z ≡ true → FitsSigned w64 z
fits_signed (pos n) h = record { sfits = ltb-true n (2 ^ 63) h }
fits_signed (negsuc n) h = record { sfits = ltb-true n (2 ^ 63) h }

pub number_word : (z : ℤ) → fits z ≡ true → number (word z) ≡ z
number_word z h = to_z-of_z (fits_signed z h)

-- ---- classes

shift_back : (a m o k : ℕ) (by : ℤ) → m + a ≡ o → pos o +ℤ by ≡ pos k → (pos a +ℤ by) +ℤ pos m ≡ pos k
shift_back a m o k by e h = omega (arith, ints)

-- the class so many cells further on is that of the cell there
pub class_moved : (element o k : ℕ) (by : ℤ) → 1 ≤ element → pos o +ℤ by ≡ pos k → class_of element k ≡ class_on element (class_of element o) by
class_moved element o k by some h = at (nat_lt 64 element)
  where
    here : pos (k % element) ≡ int_rem_euclid (pos (o % element) +ℤ by) (pos element)
    here = sym (int_rem_euclid_is (pos (o % element) +ℤ by) (pos element) element (o / element) k some refl (shift_back (o % element) (o / element * element) o k by (div-add-mod' o element) h))

    at : (b : Bool) → (if b then 0 else k % element) ≡ (if b then 0 else unsigned_abs (int_rem_euclid (pos (if b then 0 else o % element) +ℤ by) (pos element)))
    at true = refl
    at false = ap unsigned_abs here

add_whole : (o m n : ℕ) → 0 < n → (o + m * n) % n ≡ o % n
add_whole o m n some = sym (ap unsigned_abs (int_rem_euclid_is (pos o) (pos n) n m (o + m * n) some refl refl))

-- by whole elements it stays
pub class_stays : (element o k stride : ℕ) (z : ℤ) → 1 ≤ element → are_whole_elements stride element ≡ true → pos o +ℤ (z *ℤ pos stride) ≡ pos k → class_of element k ≡ class_of element o
class_stays element o k stride z some whole h = at (nat_lt 64 element)
  where
    stride_is : stride ≡ stride / element * element
    stride_is = let e = eqb-true (stride % element) 0 whole in let d = div-add-mod' stride element in omega arith

    times : (n : ℕ) → n * stride ≡ n * (stride / element) * element
    times n = ap (λ x. n * x) stride_is ∙ assoc n (stride / element) element
      where
        assoc : (a b c : ℕ) → a * (b * c) ≡ a * b * c
        assoc a b c = grind arith

    same : (z : ℤ) → pos o +ℤ (z *ℤ pos stride) ≡ pos k → k % element ≡ o % element
    same (pos n) h =
        let is : k ≡ o + n * stride = omega (arith, ints) in
        ap (λ x. x % element) is ∙ ap (λ x. (o + x) % element) (times n) ∙ add_whole o (n * (stride / element)) element some
    same (negsuc n) h =
        let is : o ≡ k + suc n * stride = omega (arith, ints) in
        sym (ap (λ x. x % element) is ∙ ap (λ x. (k + x) % element) (times (suc n)) ∙ add_whole k (suc n * (stride / element)) element some)

    at : (b : Bool) → (if b then 0 else k % element) ≡ (if b then 0 else o % element)
    at true = refl
    at false = same z h

-- each class is one of the site's
pub class_below : (element k : ℕ) → 1 ≤ element → class_of element k < classes_of element
class_below element k some = at (nat_lt 64 element)
  where
    at : (b : Bool) → (if b then 0 else k % element) < (if b then 1 else element)
    at true = omega arith
    at false = grind arith
