-- What folding computes of two numbers is what running code computes of their words.
use Rattle.std.proofs.Common.{◌≡◌, ℕ, zero, suc, ◌-◌, ◌*◌, ◌/◌, ◌^◌, ◌<◌, ◌≤◌, ◌==◌, Bool, true, false, not, if◌then◌else◌, refl, sym, ap, ◌∙◌, subst, ℤ, pos, negsuc, ◌+ℤ◌, ◌-ℤ◌, ◌*ℤ◌, int_lt, int_le, int_div, int_rem, Result, Ok, Err, arith, to_z-of_z}
use Rattle.std.specs.Prelude.{unsigned_abs, FitsSigned, bit_and, bit_or, bit_xor}
use Rattle.std.specs.Int.{cast_signed, int_shr}
use Rattle.std.specs.Ordering.{int_eq}
use mir.Syntax.{w64}
use Rattle.std.proofs.lemmas.Bool.{ltb-true, lt-ltb}
use Rattle.std.proofs.lemmas.Bool.Decides.{Decides-int_eq, Decides-eqb, Decides-like, same_from_decides}
use Rattle.std.proofs.lemmas.Int.{ints, of_z-to_z, rem_below}
use Rattle.std.proofs.lemmas.Nat.{and_le_l, or_lt, xor_lt, shr_le}
use Rattle.rr_base.specs.declared.trap.Trap.{Trap}
use Rattle.rr_base.specs.declared.trap.Trap.TheVariants.{Overflow, DivideByZero, ShiftRange}
use Rattle.c_tree.specs.declared.expr.BinaryOp.{BinaryOp}
use Rattle.c_tree.specs.declared.expr.BinaryOp.TheVariants as op
use Rattle.c_tree.specs.declared.expr.PrefixOp.{PrefixOp}
use Rattle.c_tree.specs.declared.expr.PrefixOp.TheVariants as prefix_op
use Rattle.c_types.specs.Numbers as folding
use Rattle.c_types.specs.Numbers.{Computed, computed, prefixed}
use Rattle.word_semantics.specs.Values as running
use Rattle.word_semantics.specs.Values.{number, word, fits, is_zero, binary_of}
use Rattle.core_tree.specs.Meaning.{unary_of}
use Rattle.core_tree.specs.declared.value.UnaryOp.TheVariants as unary_op
use Rattle.c_operators.specs.Operators.{flow_operator}
use Rattle.constant_sound.specs.Running.{worded, is_logical}

fits_signed : (z : ℤ) → fits z ≡ true → FitsSigned w64 z
fits_signed (pos n) h = record { sfits = ltb-true n (2 ^ 63) h }
fits_signed (negsuc n) h = record { sfits = ltb-true n (2 ^ 63) h }

pub number_word : (z : ℤ) → fits z ≡ true → number (word z) ≡ z
number_word z h = to_z-of_z (fits_signed z h)

pub word_number : (w : ℕ) → w < 2 ^ 64 → word (number w) ≡ w
word_number w h = of_z-to_z w64 w h

pub word_below : (z : ℤ) → fits z ≡ true → word z < 2 ^ 64
word_below (pos n) h = let f : n < 2 ^ 63 = ltb-true n (2 ^ 63) h in omega arith
word_below (negsuc n) h = let f : n < 2 ^ 63 = ltb-true n (2 ^ 63) h in omega arith

pub word_is_zero : (z : ℤ) → fits z ≡ true → (word z == 0) ≡ is_zero z
word_is_zero (pos n) h = refl
word_is_zero (negsuc n) h = let f : n < 2 ^ 63 = ltb-true n (2 ^ 63) h in grind arith

fitting_same : (z : ℤ) → running.fitting z ≡ worded (folding.fitting z)
fitting_same z = by (fits z)
  where
    by : (b : Bool) → (if b then Ok (word z) else Err Overflow) ≡ worded (if b then Ok z else Err Overflow)
    by true = refl
    by false = refl

pub bits_same : (n : ℕ) → n < 2 ^ 64 → n ≡ word (cast_signed w64 n)
bits_same n h = sym (word_number n h)

-- ---- what running gives

on_numbers : {A : Type 0} (f : ℤ → ℤ → A) (a b : ℤ) → fits a ≡ true → fits b ≡ true → f (number (word a)) (number (word b)) ≡ f a b
on_numbers f a b ha hb = ap (λ x. f x (number (word b))) (number_word a ha) ∙ ap (f a) (number_word b hb)

pub truth_same : (b : Bool) → running.truth b ≡ word (folding.truth b)
truth_same true = refl
truth_same false = refl

abbrev worded_as : ℕ → Result ℕ Trap
worded_as w = Ok w

compared_same : (test : ℤ → ℤ → Bool) (a b : ℤ) → fits a ≡ true → fits b ≡ true → worded_as (running.truth (test (number (word a)) (number (word b)))) ≡ worded (Ok (folding.truth (test a b)))
compared_same test a b ha hb = ap Ok (on_numbers (λ x y. running.truth (test x y)) a b ha hb ∙ truth_same (test a b))

divided_same : (f : ℤ → ℤ → ℤ) (a b : ℤ) → running.divided f a b ≡ worded (folding.divided f a b)
divided_same f a b = by (is_zero b) (fits (int_div a b))
  where
    by : (zero' fit : Bool) → (if zero' then Err DivideByZero else (if fit then Ok (word (f a b)) else Err Overflow)) ≡ worded (if zero' then Err DivideByZero else (if fit then Ok (f a b) else Err Overflow))
    by true fit = refl
    by false true = refl
    by false false = refl

moved_same : (a : ℤ) (n : ℕ) → running.moved_left a n ≡ worded (folding.moved_left a n)
moved_same (pos a) n = fitting_same (pos (a * 2 ^ n))
moved_same (negsuc a) n = refl

left_same : (a n : ℤ) → running.shifted_left a n ≡ worded (folding.shifted_left a n)
left_same a n = by (running.is_shift n)
  where
    by : (b : Bool) → (if b then running.moved_left a (running.places n) else Err ShiftRange) ≡ worded (if b then folding.moved_left a (folding.places n) else Err ShiftRange)
    by true = moved_same a (running.places n)
    by false = refl

right_same : (a n : ℤ) → running.shifted_right a n ≡ worded (folding.shifted_right a n)
right_same a n = by (running.is_shift n)
  where
    by : (b : Bool) → (if b then Ok (word (int_shr a (running.places n))) else Err ShiftRange) ≡ worded (if b then Ok (int_shr a (folding.places n)) else Err ShiftRange)
    by true = refl
    by false = refl

same_words : (a b : ℤ) → fits a ≡ true → fits b ≡ true → (word a == word b) ≡ int_eq a b
same_words a b ha hb =
    same_from_decides (word a == word b) (int_eq a b)
    (Decides-like (word a == word b) (λ e. sym (number_word a ha) ∙ ap number e ∙ number_word b hb) (ap word) (Decides-eqb (word a) (word b)))
    (Decides-int_eq a b)

bits_below : (o : ℕ → ℕ → ℕ) (a b : ℤ) → ((x y : ℕ) → x < 2 ^ 64 → y < 2 ^ 64 → o x y < 2 ^ 64) → fits a ≡ true → fits b ≡ true → o (word a) (word b) < 2 ^ 64
bits_below o a b below ha hb = below (word a) (word b) (word_below a ha) (word_below b hb)

and_below : (x y : ℕ) → x < 2 ^ 64 → y < 2 ^ 64 → bit_and x y < 2 ^ 64
and_below x y hx hy = let le = and_le_l x y in omega arith

pub operator_same : (o : BinaryOp) (a b : ℤ) → is_logical o ≡ false → fits a ≡ true → fits b ≡ true → binary_of (flow_operator o) (word a) (word b) ≡ worded (computed o a b)
operator_same op.LogicalOr a b k ha hb = cc
operator_same op.LogicalAnd a b k ha hb = cc
operator_same op.Or a b k ha hb = ap Ok (sym (word_number (bit_or (word a) (word b)) (bits_below bit_or a b (or_lt 64) ha hb)))
operator_same op.Xor a b k ha hb = ap Ok (sym (word_number (bit_xor (word a) (word b)) (bits_below bit_xor a b (xor_lt 64) ha hb)))
operator_same op.And a b k ha hb = ap Ok (sym (word_number (bit_and (word a) (word b)) (bits_below bit_and a b and_below ha hb)))
operator_same op.Equal a b k ha hb = ap (λ z. Ok (running.truth z)) (same_words a b ha hb) ∙ ap Ok (truth_same (int_eq a b))
operator_same op.NotEqual a b k ha hb = ap (λ z. Ok (running.truth (not z))) (same_words a b ha hb) ∙ ap Ok (truth_same (not (int_eq a b)))
operator_same op.Less a b k ha hb = compared_same int_lt a b ha hb
operator_same op.Greater a b k ha hb = compared_same (λ x y. int_lt y x) a b ha hb
operator_same op.LessEqual a b k ha hb = compared_same int_le a b ha hb
operator_same op.GreaterEqual a b k ha hb = compared_same (λ x y. int_le y x) a b ha hb
operator_same op.ShiftLeft a b k ha hb = on_numbers running.shifted_left a b ha hb ∙ left_same a b
operator_same op.ShiftRight a b k ha hb = on_numbers running.shifted_right a b ha hb ∙ right_same a b
operator_same op.Add a b k ha hb = on_numbers (λ x y. running.fitting (x +ℤ y)) a b ha hb ∙ fitting_same (a +ℤ b)
operator_same op.Subtract a b k ha hb = on_numbers (λ x y. running.fitting (x -ℤ y)) a b ha hb ∙ fitting_same (a -ℤ b)
operator_same op.Multiply a b k ha hb = on_numbers (λ x y. running.fitting (x *ℤ y)) a b ha hb ∙ fitting_same (a *ℤ b)
operator_same op.Divide a b k ha hb = on_numbers (running.divided int_div) a b ha hb ∙ divided_same int_div a b
operator_same op.Remainder a b k ha hb = on_numbers (running.divided int_rem) a b ha hb ∙ divided_same int_rem a b

-- ---- what folding gives fits

abbrev pub Fits : Computed → Type 0
Fits c = (n : ℤ) → c ≡ Ok n → fits n ≡ true

abbrev pub found : ℤ → Computed
found x = Ok x

pub number_fits : (z : ℤ) → fits z ≡ true → Fits (Ok z)
number_fits z h n e = subst (λ x. fits x ≡ true) (same z n e) h
  where
    same : (x y : ℤ) → found x ≡ found y → x ≡ y
    same x y e = cc

pub trap_fits : (t : Trap) → Fits (Err t)
trap_fits t n e = cc

pub truth_fits : (b : Bool) → fits (folding.truth b) ≡ true
truth_fits true = refl
truth_fits false = refl

fitting_fits : (z : ℤ) → Fits (folding.fitting z)
fitting_fits z = by (fits z) refl
  where
    by : (b : Bool) → fits z ≡ b → Fits (if b then Ok z else Err Overflow)
    by true h = number_fits z h
    by false h = trap_fits Overflow

signed_fits : (m : ℕ) → m < 2 ^ 64 → fits (cast_signed w64 m) ≡ true
signed_fits m h = grind arith

divided_fits : (f : ℤ → ℤ → ℤ) (a b : ℤ) → (is_zero b ≡ false → fits (int_div a b) ≡ true → fits (f a b) ≡ true) → Fits (folding.divided f a b)
divided_fits f a b own = by (is_zero b) (fits (int_div a b)) refl refl
  where
    by : (zero' fit : Bool) → is_zero b ≡ zero' → fits (int_div a b) ≡ fit → Fits (if zero' then Err DivideByZero else (if fit then Ok (f a b) else Err Overflow))
    by true fit z h = trap_fits DivideByZero
    by false true z h = number_fits (f a b) (own z h)
    by false false z h = trap_fits Overflow

below_fits : (z : ℤ) → unsigned_abs z < 2 ^ 63 → fits z ≡ true
below_fits (pos n) h = lt-ltb n (2 ^ 63) h
below_fits (negsuc n) h = lt-ltb n (2 ^ 63) (omega arith)

some_size : (b : ℤ) → is_zero b ≡ false → 0 < unsigned_abs b
some_size (pos zero) h = cc
some_size (pos (suc n)) h = omega arith
some_size (negsuc n) h = omega arith

size_within : (b : ℤ) → fits b ≡ true → unsigned_abs b ≤ 2 ^ 63
size_within (pos n) h = let f : n < 2 ^ 63 = ltb-true n (2 ^ 63) h in omega arith
size_within (negsuc n) h = let f : n < 2 ^ 63 = ltb-true n (2 ^ 63) h in omega arith

remainder_fits : (a b : ℤ) → fits b ≡ true → is_zero b ≡ false → fits (int_rem a b) ≡ true
remainder_fits a b hb z = let r = rem_below a b (some_size b z) in let s = size_within b hb in below_fits (int_rem a b) (omega arith)

shifted_fits : (a : ℤ) (k : ℕ) → fits a ≡ true → fits (int_shr a k) ≡ true
shifted_fits (pos n) k h = let f : n < 2 ^ 63 = ltb-true n (2 ^ 63) h in let le = shr_le n k in lt-ltb (n / 2 ^ k) (2 ^ 63) (omega arith)
shifted_fits (negsuc n) k h = let f : n < 2 ^ 63 = ltb-true n (2 ^ 63) h in let le = shr_le n k in lt-ltb (n / 2 ^ k) (2 ^ 63) (omega arith)

right_fits : (a n : ℤ) → fits a ≡ true → Fits (folding.shifted_right a n)
right_fits a n h = by (folding.is_shift n)
  where
    by : (b : Bool) → Fits (if b then Ok (int_shr a (folding.places n)) else Err ShiftRange)
    by true = number_fits (int_shr a (folding.places n)) (shifted_fits a (folding.places n) h)
    by false = trap_fits ShiftRange

moved_fits : (a : ℤ) (n : ℕ) → Fits (folding.moved_left a n)
moved_fits (pos a) n = fitting_fits (pos (a * 2 ^ n))
moved_fits (negsuc a) n = trap_fits Overflow

left_fits : (a n : ℤ) → Fits (folding.shifted_left a n)
left_fits a n = by (folding.is_shift n)
  where
    by : (b : Bool) → Fits (if b then folding.moved_left a (folding.places n) else Err ShiftRange)
    by true = moved_fits a (folding.places n)
    by false = trap_fits ShiftRange

chosen_fits : (b : Bool) (x y : ℤ) → fits x ≡ true → fits y ≡ true → fits (if b then x else y) ≡ true
chosen_fits true x y hx hy = hx
chosen_fits false x y hx hy = hy

pub computed_fits : (o : BinaryOp) (a b : ℤ) → fits a ≡ true → fits b ≡ true → Fits (computed o a b)
computed_fits op.LogicalOr a b ha hb = number_fits (if is_zero a then folding.truth (not (is_zero b)) else pos 1) (chosen_fits (is_zero a) (folding.truth (not (is_zero b))) (pos 1) (truth_fits (not (is_zero b))) refl)
computed_fits op.LogicalAnd a b ha hb = number_fits (if is_zero a then pos 0 else folding.truth (not (is_zero b))) (chosen_fits (is_zero a) (pos 0) (folding.truth (not (is_zero b))) refl (truth_fits (not (is_zero b))))
computed_fits op.Or a b ha hb = number_fits (folding.bitwise bit_or a b) (signed_fits (bit_or (word a) (word b)) (bits_below bit_or a b (or_lt 64) ha hb))
computed_fits op.Xor a b ha hb = number_fits (folding.bitwise bit_xor a b) (signed_fits (bit_xor (word a) (word b)) (bits_below bit_xor a b (xor_lt 64) ha hb))
computed_fits op.And a b ha hb = number_fits (folding.bitwise bit_and a b) (signed_fits (bit_and (word a) (word b)) (bits_below bit_and a b and_below ha hb))
computed_fits op.Equal a b ha hb = number_fits (folding.truth (int_eq a b)) (truth_fits (int_eq a b))
computed_fits op.NotEqual a b ha hb = number_fits (folding.truth (not (int_eq a b))) (truth_fits (not (int_eq a b)))
computed_fits op.Less a b ha hb = number_fits (folding.truth (int_lt a b)) (truth_fits (int_lt a b))
computed_fits op.Greater a b ha hb = number_fits (folding.truth (int_lt b a)) (truth_fits (int_lt b a))
computed_fits op.LessEqual a b ha hb = number_fits (folding.truth (int_le a b)) (truth_fits (int_le a b))
computed_fits op.GreaterEqual a b ha hb = number_fits (folding.truth (int_le b a)) (truth_fits (int_le b a))
computed_fits op.ShiftLeft a b ha hb = left_fits a b
computed_fits op.ShiftRight a b ha hb = right_fits a b ha
computed_fits op.Add a b ha hb = fitting_fits (a +ℤ b)
computed_fits op.Subtract a b ha hb = fitting_fits (a -ℤ b)
computed_fits op.Multiply a b ha hb = fitting_fits (a *ℤ b)
computed_fits op.Divide a b ha hb = divided_fits int_div a b (λ z h. h)
computed_fits op.Remainder a b ha hb = divided_fits int_rem a b (λ z h. remainder_fits a b hb z)

-- ---- operators on one number

pub minus_same : (a : ℤ) → fits a ≡ true → unary_of unary_op.Minus (word a) ≡ worded (prefixed prefix_op.Minus a)
minus_same a h = ap (λ x. running.fitting (pos 0 -ℤ x)) (number_word a h) ∙ fitting_same (pos 0 -ℤ a)

-- `~` turns the sign
turned_pos : (n : ℕ) → negsuc 0 -ℤ pos n ≡ negsuc n
turned_pos n = omega (arith, ints)

turned_negsuc : (n : ℕ) → negsuc 0 -ℤ negsuc n ≡ pos n
turned_negsuc n = omega (arith, ints)

complement_word : (a : ℤ) → fits a ≡ true → 2 ^ 64 - 1 - word a ≡ word (negsuc 0 -ℤ a)
complement_word (pos n) h = let f : n < 2 ^ 63 = ltb-true n (2 ^ 63) h in let e : 2 ^ 64 - 1 - n ≡ 2 ^ 64 - suc n = omega arith in e ∙ sym (ap word (turned_pos n))
complement_word (negsuc n) h = let f : n < 2 ^ 63 = ltb-true n (2 ^ 63) h in let e : 2 ^ 64 - 1 - (2 ^ 64 - suc n) ≡ n = omega arith in e ∙ sym (ap word (turned_negsuc n))

pub complement_same : (a : ℤ) → fits a ≡ true → unary_of unary_op.Complement (word a) ≡ worded (prefixed prefix_op.Complement a)
complement_same a h = ap Ok (complement_word a h)

pub not_same : (a : ℤ) → fits a ≡ true → unary_of unary_op.Not (word a) ≡ worded (prefixed prefix_op.Not a)
not_same a h = ap (λ z. Ok (running.truth z)) (word_is_zero a h) ∙ ap Ok (truth_same (is_zero a))

complement_fits : (a : ℤ) → fits a ≡ true → fits (negsuc 0 -ℤ a) ≡ true
complement_fits (pos n) h = ap fits (turned_pos n) ∙ h
complement_fits (negsuc n) h = ap fits (turned_negsuc n) ∙ h

-- the operators that need a place give the number back
pub prefixed_fits : (o : PrefixOp) (a : ℤ) → fits a ≡ true → Fits (prefixed o a)
prefixed_fits prefix_op.Minus a h = fitting_fits (pos 0 -ℤ a)
prefixed_fits prefix_op.Not a h = number_fits (folding.truth (is_zero a)) (truth_fits (is_zero a))
prefixed_fits prefix_op.Complement a h = number_fits (negsuc 0 -ℤ a) (complement_fits a h)
prefixed_fits _ a h = number_fits a h
