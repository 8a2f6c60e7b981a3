-- A number that is read is the number that was written, and only its one text is read.
use Rattle.std.proofs.Common.{◌≡◌, ℕ, zero, suc, ◌+◌, ◌-◌, ◌*◌, ◌/◌, ◌%◌, ◌<◌, ◌≤◌, Bool, true, false, eqb, List, [], ◌∷◌, ◌++◌, map, get_or, codes, Some, None, refl, sym, ap, ◌∙◌, arith, append_assoc}
use Rattle.std.specs.Char.{is_ascii_digit}
use Rattle.std.specs.Int.Digits.{digits_of, number_from_digits_after, AllBelowBase}
use Rattle.std.proofs.lemmas.Bool.{ne_eqb, eqb-true, eqb-false, cond-true, cond-false}
use Rattle.std.proofs.lemmas.Option.{none-some, same_Some}
use Rattle.std.proofs.lemmas.Bool.Decides.{nat_tests}
use Rattle.std.proofs.lemmas.List.{append-nil}
use Rattle.std.proofs.lemmas.Int.Digits.{digits_of_step, first_digits_of, number_digits_of, all_below_base_digits_of, number_after_ge}
use Rattle.profiles.specs.Profile.{Text}
use Rattle.order_log.specs.Text.{number_text}
use Rattle.order_log.specs.Line.{digits_from, only_zero, number_in}

abbrev pub digit : ℕ → ℕ
digit d = 48 + d

is_digit : (d : ℕ) → d < 10 → is_ascii_digit (digit d) ≡ true
is_digit d lt = grind (arith, nat_tests)

digits_after : (v : ℕ) (xs : List ℕ) → AllBelowBase 10 xs → digits_from v (map digit xs) ≡ Some (number_from_digits_after 10 v xs)
digits_after v [] h = refl
digits_after v (x ∷ xs) h =
    let value : v * 10 + ((48 + x) - 48) ≡ v * 10 + x = omega arith in
    rw (is_digit x h.0, value) (digits_after (v * 10 + x) xs h.1)

number_again_from : (n : ℕ) (ds : List ℕ) → 0 < n → digits_of 10 n ≡ ds → AllBelowBase 10 ds → 0 < get_or ds 0 0 → number_from_digits_after 10 0 ds ≡ n → number_in (map digit ds) ≡ Some n
number_again_from n [] some is below first value = absurd (omega arith)
number_again_from n (x ∷ xs) some is below first value =
    let other : eqb (48 + x) 48 ≡ false = ne_eqb _ _ (λ e. omega arith) in
    rw other (digits_after 0 (x ∷ xs) below ∙ ap Some value)

pub number_text_some : (n : ℕ) → 0 < n → number_text n ≡ map digit (digits_of 10 n)
number_text_some n some = cond-false (eqb n 0) (codes "0") (map digit (digits_of 10 n)) (ne_eqb n 0 (λ e. omega arith))

again_some : (n : ℕ) → 0 < n → number_in (number_text n) ≡ Some n
again_some n some =
    ap number_in (number_text_some n some)
    ∙ number_again_from n (digits_of 10 n) some refl (all_below_base_digits_of 10 n (omega arith)) (first_digits_of 10 n (omega arith) some) (number_digits_of 10 n (omega arith))

pub number_in-number_text : (n : ℕ) → number_in (number_text n) ≡ Some n
number_in-number_text zero = refl
number_in-number_text (suc n) = again_some (suc n) (omega arith)

-- ---- the one text of a number

-- what the digits of a number are, from the front on
digits_of-after : (v : ℕ) (xs : List ℕ) → 0 < v → AllBelowBase 10 xs → digits_of 10 (number_from_digits_after 10 v xs) ≡ digits_of 10 v ++ xs
digits_of-after v [] some h = sym (append-nil (digits_of 10 v))
digits_of-after v (x ∷ xs) some h =
    let lt : x < 10 = h.0 in
    let here = digits_of_step 10 (v * 10 + x) (omega arith) (omega arith) in
    let front : (v * 10 + x) / 10 ≡ v = omega arith in
    let last : (v * 10 + x) % 10 ≡ x = omega arith in
    digits_of-after (v * 10 + x) xs (omega arith) h.1
    ∙ ap (λ ds. ds ++ xs) (here ∙ ap (λ q. digits_of 10 q ++ ((v * 10 + x) % 10 ∷ [])) front ∙ ap (λ r. digits_of 10 v ++ (r ∷ [])) last)
    ∙ append_assoc (digits_of 10 v) (x ∷ []) xs

digits_of_one : (x : ℕ) → 0 < x → x < 10 → digits_of 10 x ≡ x ∷ []
digits_of_one x some lt =
    let none : x / 10 ≡ 0 = omega arith in
    let same : x % 10 ≡ x = omega arith in
    digits_of_step 10 x (omega arith) some ∙ ap (λ q. digits_of 10 q ++ (x % 10 ∷ [])) none ∙ ap (λ r. r ∷ []) same

-- the digits that a text is made of
pub record AreDigits (v : ℕ) (bs : Text) (n : ℕ) : Type 0 where
  pub digits : List ℕ
  pub text : bs ≡ map digit digits
  pub below : AllBelowBase 10 digits
  pub value : n ≡ number_from_digits_after 10 v digits

digits_are : (v : ℕ) (bs : Text) (n : ℕ) → digits_from v bs ≡ Some n → AreDigits v bs n
digits_are v [] n e = record { digits = []; text = refl; below = tt; value = cc }
digits_are v (b ∷ bs) n e = by (is_ascii_digit b) refl (digits_are (v * 10 + (b - 48)) bs n)
  where
    by : (t : Bool) → is_ascii_digit b ≡ t → (digits_from (v * 10 + (b - 48)) bs ≡ Some n → AreDigits (v * 10 + (b - 48)) bs n) → AreDigits v (b ∷ bs) n
    by true is others =
        let low : 48 ≤ b = grind (arith, nat_tests) in
        let high : b < 58 = grind (arith, nat_tests) in
        let rest = others (sym (cond-true (is_ascii_digit b) (digits_from (v * 10 + (b - 48)) bs) None is) ∙ e) in
        let back : b ≡ 48 + (b - 48) = omega arith in
        record {
          digits = (b - 48) ∷ rest.digits;
          text = ap (λ c. c ∷ bs) back ∙ ap (λ cs. (48 + (b - 48)) ∷ cs) rest.text;
          below = (omega arith, rest.below);
          value = rest.value;
        }
    by false is others = absurd (none-some n (sym (cond-false (is_ascii_digit b) (digits_from (v * 10 + (b - 48)) bs) None is) ∙ e))

first_is : (x : ℕ) (xs : List ℕ) (n : ℕ) → 0 < x → AllBelowBase 10 (x ∷ xs) → n ≡ number_from_digits_after 10 0 (x ∷ xs) → number_text n ≡ map digit (x ∷ xs)
first_is x xs n some below value =
    let zero_first : 0 * 10 + x ≡ x = omega arith in
    let same : n ≡ number_from_digits_after 10 x xs = value ∙ ap (λ k. number_from_digits_after 10 k xs) zero_first in
    let more : x ≤ number_from_digits_after 10 x xs = number_after_ge 10 x xs (omega arith) in
    let positive : 0 < n = omega arith in
    let digits : digits_of 10 n ≡ x ∷ xs = ap (digits_of 10) same ∙ digits_of-after x xs some below.1 ∙ ap (λ ds. ds ++ xs) (digits_of_one x some below.0) in
    number_text_some n positive ∙ ap (map digit) digits

digits_text : (b : ℕ) (bs : Text) (n : ℕ) → (eqb b 48 ≡ false) → AreDigits 0 (b ∷ bs) n → number_text n ≡ b ∷ bs
digits_text b bs n other d = by d.digits d.text d.below d.value
  where
    by : (ds : List ℕ) → (b ∷ bs) ≡ map digit ds → AllBelowBase 10 ds → n ≡ number_from_digits_after 10 0 ds → number_text n ≡ b ∷ bs
    by [] text below value = absurd cc
    by (x ∷ xs) text below value =
        let head : b ≡ 48 + x = cc in
        let different : b ≡ 48 → ⊥ = eqb-false b 48 other in
        first_is x xs n (grind arith) below value ∙ sym text

pub number_text-number_in : (bs : Text) (n : ℕ) → number_in bs ≡ Some n → bs ≡ number_text n
number_text-number_in [] n e = absurd (none-some n e)
number_text-number_in (b ∷ bs) n e = by (eqb b 48) refl
  where
    zeros : (cs : Text) → only_zero cs ≡ Some n → b ≡ 48 → b ∷ cs ≡ number_text n
    zeros [] z is = let none : 0 ≡ n = same_Some 0 n z in ap (λ c. c ∷ []) is ∙ ap number_text none
    zeros (c ∷ cs) z is = absurd (none-some n z)

    by : (t : Bool) → eqb b 48 ≡ t → b ∷ bs ≡ number_text n
    by true is = zeros bs (sym (cond-true (eqb b 48) (only_zero bs) (digits_from 0 (b ∷ bs)) is) ∙ e) (eqb-true b 48 is)
    by false is = sym (digits_text b bs n is (digits_are 0 (b ∷ bs) n (sym (cond-false (eqb b 48) (only_zero bs) (digits_from 0 (b ∷ bs)) is) ∙ e)))
