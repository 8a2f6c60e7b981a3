-- Numbers in digits, compared: the shorter is the lesser, and of two that are as long the first digits that differ decide.
use Rattle.std.proofs.Common.{◌≡◌, ℕ, zero, suc, ◌+◌, ◌*◌, ◌<◌, ◌≤◌, Bool, true, false, cond, eqb, List, [], ◌∷◌, length, map, get_or, Some, refl, sym, ap, ◌∙◌, arith, ⊎_elim}
use Rattle.std.specs.Prelude.{nat_lt}
use Rattle.std.specs.declared.cmp.Ordering.{Ordering}
use Rattle.std.specs.declared.cmp.Ordering.TheVariants.{Less, Equal, Greater}
use Rattle.std.specs.Ordering.{nat_cmp, ordering_then, is_lt}
use Rattle.std.specs.Int.Digits.{digits_of, number_from_digits_after, AllBelowBase}
use Rattle.std.proofs.lemmas.Bool.{lt-ltb, le-ltb, eq-eqb, ne_eqb, cond-true, cond-false, cases_lt, cases_order}
use Rattle.std.proofs.lemmas.List.{length-map}
use Rattle.std.proofs.lemmas.Int.Digits.{first_digits_of, number_digits_of, all_below_base_digits_of}
use Rattle.profiles.specs.Profile.{Text, text_order}
use Rattle.order_log.specs.Text.{number_text}
use Rattle.order_log.specs.Line.{number_in}
use Rattle.order_log.proofs.Numbers.{digit, number_text_some, number_text-number_in}

-- ---- orders

is_lt-nat_cmp : (m n : ℕ) → is_lt (nat_cmp m n) ≡ nat_lt m n
is_lt-nat_cmp m n = by (nat_lt m n) (eqb m n)
  where
    by : (t u : Bool) → is_lt (cond t Less (cond u Equal Greater)) ≡ t
    by true u = refl
    by false true = refl
    by false false = refl

cmp_less : (m n : ℕ) → m < n → nat_cmp m n ≡ Less
cmp_less m n lt = cond-true (nat_lt m n) _ _ (lt-ltb m n lt)

cmp_equal : (m n : ℕ) → m ≡ n → nat_cmp m n ≡ Equal
cmp_equal m n e = cond-false (nat_lt m n) _ _ (le-ltb m n (omega arith)) ∙ cond-true (eqb m n) _ _ (eq-eqb m n e)

cmp_greater : (m n : ℕ) → n < m → nat_cmp m n ≡ Greater
cmp_greater m n lt = cond-false (nat_lt m n) _ _ (le-ltb m n (omega arith)) ∙ cond-false (eqb m n) _ _ (ne_eqb m n (λ e. omega arith))

-- ---- digits

abbrev value : ℕ → List ℕ → ℕ
value v xs = number_from_digits_after 10 v xs

-- what is ahead stays ahead, over as many digits
ahead : (v w : ℕ) (xs ys : List ℕ) → v < w → length xs ≡ length ys → AllBelowBase 10 xs → value v xs < value w ys
ahead v w [] [] lt long below = lt
ahead v w [] (y ∷ ys) lt long below = absurd (omega arith)
ahead v w (x ∷ xs) [] lt long below = absurd (omega arith)
ahead v w (x ∷ xs) (y ∷ ys) lt long below = let small : x < 10 = below.0 in ahead (v * 10 + x) (w * 10 + y) xs ys (omega arith) (omega arith) below.1

one_more : (v x y : ℕ) (xs ys : List ℕ) → length xs ≡ length ys → AllBelowBase 10 (x ∷ xs) → AllBelowBase 10 (y ∷ ys) → text_order (map digit xs) (map digit ys) ≡ nat_cmp (value (v * 10 + x) xs) (value (v * 10 + x) ys)
    → text_order (map digit (x ∷ xs)) (map digit (y ∷ ys)) ≡ nat_cmp (value v (x ∷ xs)) (value v (y ∷ ys))
one_more v x y xs ys tails below under others = ⊎_elim same (λ other. ⊎_elim lesser greater other) (cases_order x y)
  where
    rest : Ordering
    rest = text_order (map digit xs) (map digit ys)

    same : x ≡ y → ordering_then (nat_cmp (48 + x) (48 + y)) rest ≡ nat_cmp (value (v * 10 + x) xs) (value (v * 10 + y) ys)
    same e =
        ap (λ (o : Ordering). ordering_then o rest) (cmp_equal (48 + x) (48 + y) (omega arith)) ∙ others
        ∙ ap (λ (k : ℕ). nat_cmp (value (v * 10 + x) xs) (value (v * 10 + k) ys)) e

    lesser : x < y → ordering_then (nat_cmp (48 + x) (48 + y)) rest ≡ nat_cmp (value (v * 10 + x) xs) (value (v * 10 + y) ys)
    lesser lt =
        let small : x < 10 = below.0 in
        ap (λ (o : Ordering). ordering_then o rest) (cmp_less (48 + x) (48 + y) (omega arith)) ∙ sym (cmp_less _ _ (ahead (v * 10 + x) (v * 10 + y) xs ys (omega arith) tails below.1))

    greater : y < x → ordering_then (nat_cmp (48 + x) (48 + y)) rest ≡ nat_cmp (value (v * 10 + x) xs) (value (v * 10 + y) ys)
    greater lt = ap (λ (o : Ordering). ordering_then o rest) (cmp_greater (48 + x) (48 + y) (omega arith)) ∙ sym (cmp_greater _ _ (ahead (v * 10 + y) (v * 10 + x) ys xs (omega arith) (sym tails) under.1))

as_long : (v : ℕ) (xs ys : List ℕ) → length xs ≡ length ys → AllBelowBase 10 xs → AllBelowBase 10 ys → text_order (map digit xs) (map digit ys) ≡ nat_cmp (value v xs) (value v ys)
as_long v [] [] long below under = sym (cmp_equal v v refl)
as_long v [] (y ∷ ys) long below under = absurd (omega arith)
as_long v (x ∷ xs) [] long below under = absurd (omega arith)
as_long v (x ∷ xs) (y ∷ ys) long below under =
    let tails : length xs ≡ length ys = omega arith in
    one_more v x y xs ys tails below under (as_long (v * 10 + x) xs ys tails below.1 under.1)

-- fewer digits are less than more of which the first is some
fewer : (w : ℕ) (xs ys : List ℕ) → 0 < w → length xs ≤ length ys → AllBelowBase 10 xs → value 0 xs < value w ys
fewer w [] [] some le below = some
fewer w (x ∷ xs) [] some le below = absurd (omega arith)
fewer w xs (y ∷ ys) some le below =
    ⊎_elim
    (λ lt. fewer (w * 10 + y) xs ys (omega arith) (omega arith) below)
    (λ ge. ahead 0 w xs (y ∷ ys) some (omega arith) below)
    (cases_lt (length xs) (length (y ∷ ys)))

-- the digits of a number, of which the first is some where there are more
record Numeral (n : ℕ) : Type 0 where
  digits : List ℕ
  text : number_text n ≡ map digit digits
  below : AllBelowBase 10 digits
  value_is : value 0 digits ≡ n
  some : 0 < length digits
  leading : 1 < length digits → 0 < get_or digits 0 0

some_first : (ds : List ℕ) → 0 < get_or ds 0 0 → 0 < length ds
some_first [] h = absurd (omega arith)
some_first (d ∷ ds) h = omega arith

numeral : (n : ℕ) → Numeral n
numeral zero = record { digits = 0 ∷ []; text = refl; below = (omega arith, tt); value_is = refl; some = omega arith; leading = λ h. absurd (omega arith) }
numeral (suc n) =
    let first = first_digits_of 10 (suc n) (omega arith) (omega arith) in
    record {
      digits = digits_of 10 (suc n);
      text = number_text_some (suc n) (omega arith);
      below = all_below_base_digits_of 10 (suc n) (omega arith);
      value_is = number_digits_of 10 (suc n) (omega arith);
      some = some_first (digits_of 10 (suc n)) first;
      leading = λ h. first;
    }

shorter : (xs ys : List ℕ) → 0 < length xs → length xs < length ys → AllBelowBase 10 xs → (1 < length ys → 0 < get_or ys 0 0) → value 0 xs < value 0 ys
shorter xs [] some lt below leading = absurd (omega arith)
shorter xs (y ∷ ys) some lt below leading = let first : 0 < y = leading (omega arith) in fewer (0 * 10 + y) xs ys (omega arith) (omega arith) below

-- ---- the comparison

abbrev compared : Text → Text → Ordering
compared a b = ordering_then (nat_cmp (length a) (length b)) (text_order a b)

by_digits : (m n : ℕ) (x : Numeral m) (y : Numeral n) → is_lt (compared (map digit x.digits) (map digit y.digits)) ≡ nat_lt m n
by_digits m n x y = ⊎_elim same (λ other. ⊎_elim less more other) (cases_order (length x.digits) (length y.digits))
  where
    rest : Ordering
    rest = text_order (map digit x.digits) (map digit y.digits)

    lengths : nat_cmp (length (map digit x.digits)) (length (map digit y.digits)) ≡ nat_cmp (length x.digits) (length y.digits)
    lengths = λ i. nat_cmp (length-map x.digits digit i) (length-map y.digits digit i)

    first : (o : Ordering) → nat_cmp (length x.digits) (length y.digits) ≡ o → is_lt (compared (map digit x.digits) (map digit y.digits)) ≡ is_lt (ordering_then o rest)
    first o e = ap (λ (p : Ordering). is_lt (ordering_then p rest)) (lengths ∙ e)

    same : length x.digits ≡ length y.digits → is_lt (compared (map digit x.digits) (map digit y.digits)) ≡ nat_lt m n
    same e =
        first Equal (cmp_equal _ _ e) ∙ ap is_lt (as_long 0 x.digits y.digits e x.below y.below) ∙ is_lt-nat_cmp (value 0 x.digits) (value 0 y.digits) ∙ (λ i. nat_lt (x.value_is i) (y.value_is i))

    less : length x.digits < length y.digits → is_lt (compared (map digit x.digits) (map digit y.digits)) ≡ nat_lt m n
    less lt =
        let below = shorter x.digits y.digits x.some lt x.below y.leading in
        let here = x.value_is in
        let there = y.value_is in
        first Less (cmp_less _ _ lt) ∙ sym (lt-ltb m n (omega arith))

    more : length y.digits < length x.digits → is_lt (compared (map digit x.digits) (map digit y.digits)) ≡ nat_lt m n
    more lt =
        let below = shorter y.digits x.digits y.some lt y.below x.leading in
        let here = x.value_is in
        let there = y.value_is in
        first Greater (cmp_greater _ _ lt) ∙ sym (le-ltb m n (omega arith))

pub less_by_digits : (a b : Text) (m n : ℕ) → number_in a ≡ Some m → number_in b ≡ Some n → is_lt (ordering_then (nat_cmp (length a) (length b)) (text_order a b)) ≡ nat_lt m n
less_by_digits a b m n is_m is_n =
    let x = numeral m in
    let y = numeral n in
    let first : a ≡ map digit x.digits = number_text-number_in a m is_m ∙ x.text in
    let second : b ≡ map digit y.digits = number_text-number_in b n is_n ∙ y.text in
    (λ i. is_lt (compared (first i) (second i))) ∙ by_digits m n x y
