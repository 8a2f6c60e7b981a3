-- The text of a signed word, and that a field is read as the word whose text it is.
use Rattle.std.proofs.Common.{◌≡◌, ℕ, suc, ◌+◌, ◌-◌, ◌^◌, ◌<◌, ◌≤◌, Bool, true, false, List, [], ◌∷◌, drop, min, Option, Some, None, refl, sym, ap, subst, ◌∙◌, arith, ⊎_elim}
use Rattle.std.specs.Prelude.{◌==◌, ◌||◌, nat_lt, ℤ, pos, negsuc, if◌then◌else◌}
use Rattle.std.specs.Option.{option_map}
use Rattle.std.specs.Fmt.{signed_decimal}
use Rattle.std.proofs.lemmas.Bool.{cases_lt, cond-true, cond-false}
use Rattle.std.proofs.lemmas.Bool.Decides.{nat_tests}
use Rattle.std.proofs.lemmas.Int.{ints}
use mir.Syntax.{w64}
use mir.ValLaws.{to_z-neg}
use Rattle.std.proofs.lemmas.Option.{none-some, same_Some}
use Rattle.profiles.specs.Profile.{Text}
use Rattle.word_semantics.specs.Values.{number}
use Rattle.order_log.specs.Text.{number_text}
use Rattle.order_log.specs.Line.{number_in, capped}
use Rattle.order_log.proofs.Numbers.{number_in-number_text, number_text-number_in}
use Rattle.order_log.proofs.Entries.{map_some}
use Rattle.order_log.proofs.Written.{decimal-number_text}
use Rattle.reads_text.specs.Text.{value_text}
use Rattle.snapshot_lines.specs.Fields.{IsValue}
use Rattle.snapshot_lines.specs.Values.{low, high}

pub value_low : (w : ℕ) → w < 9223372036854775808 → value_text w ≡ number_text w
value_low w small =
    let shown : number w ≡ pos w = omega (arith, ints) in
    ap signed_decimal shown ∙ decimal-number_text w (omega arith)

pub value_high : (w : ℕ) → 9223372036854775808 ≤ w → w < 18446744073709551616 → value_text w ≡ 45 ∷ number_text (18446744073709551616 - w)
value_high w great small =
    let back : w ≡ 18446744073709551616 - suc (18446744073709551615 - w) = omega arith in
    let shown : number w ≡ negsuc (18446744073709551615 - w) = ap number back ∙ to_z-neg w64 (18446744073709551615 - w) (omega arith) in
    let next : suc (18446744073709551615 - w) ≡ 18446744073709551616 - w = omega arith in
    ap signed_decimal shown ∙ ap (λ (t : Text). 45 ∷ t) (decimal-number_text (suc (18446744073709551615 - w)) (omega arith) ∙ ap number_text next)

pub same_number : (m n : ℕ) → number_text m ≡ number_text n → m ≡ n
same_number m n e = same_Some m n (sym (number_in-number_text m) ∙ ap number_in e ∙ number_in-number_text n)

-- a sign is no digit
pub no_sign : (bs : Text) (n : ℕ) → 45 ∷ bs ≡ number_text n → ⊥
no_sign bs n e = none-some n (ap number_in e ∙ number_in-number_text n)

-- ---- after a sign

pub minus_none : (bs : Text) → None ≡ option_map capped (number_in bs) → IsValue (45 ∷ bs) None
minus_none bs h w small e =
    ⊎_elim
    (λ lt. no_sign bs w (e ∙ value_low w lt))
    (λ ge.
    let digits : bs ≡ number_text (18446744073709551616 - w) = ap (drop 1) (e ∙ value_high w ge small) in
    none-some _ (h ∙ ap (option_map capped) (ap number_in digits ∙ number_in-number_text (18446744073709551616 - w))))
    (cases_lt w 9223372036854775808)

minus_is : (bs : Text) (m n : ℕ) → number_in bs ≡ Some m → capped m ≡ n → IsValue (45 ∷ bs) (high n)
minus_is bs m n is under = by ((n == 0) || nat_lt 9223372036854775808 n) refl
  where
    spelled : bs ≡ number_text m
    spelled = number_text-number_in bs m is

    by : (b : Bool) → ((n == 0) || nat_lt 9223372036854775808 n) ≡ b → IsValue (45 ∷ bs) (if b then None else Some (18446744073709551615 - (n - 1)))
    by true t = λ w small e.
        ⊎_elim
        (λ lt. no_sign bs w (e ∙ value_low w lt))
        (λ ge.
        let same : m ≡ 18446744073709551616 - w = same_number m (18446744073709551616 - w) (sym spelled ∙ ap (drop 1) (e ∙ value_high w ge small)) in
        grind (arith, nat_tests))
        (cases_lt w 9223372036854775808)
    by false t =
        let some : 0 < n = grind (arith, nat_tests) in
        let few : n ≤ 9223372036854775808 = grind (arith, nat_tests) in
        let w = 18446744073709551615 - (n - 1) in
        let back : m ≡ 18446744073709551616 - (18446744073709551615 - (n - 1)) = omega arith in
        (omega arith, ap (λ (t : Text). 45 ∷ t) (spelled ∙ ap number_text back) ∙ sym (value_high (18446744073709551615 - (n - 1)) (omega arith) (omega arith)))

pub minus_some : (bs : Text) (n : ℕ) → Some n ≡ option_map capped (number_in bs) → IsValue (45 ∷ bs) (high n)
minus_some bs n h = let m = map_some capped (number_in bs) n (sym h) in minus_is bs m.0 n m.1 m.2

-- ---- without a sign

pub plain_none : (f : Text) → ((bs : Text) → f ≡ 45 ∷ bs → ⊥) → None ≡ option_map capped (number_in f) → IsValue f None
plain_none f other h w small e =
    ⊎_elim
    (λ lt. none-some _ (h ∙ ap (option_map capped) (ap number_in (e ∙ value_low w lt) ∙ number_in-number_text w)))
    (λ ge. other (number_text (18446744073709551616 - w)) (e ∙ value_high w ge small))
    (cases_lt w 9223372036854775808)

plain_is : (f : Text) (m n : ℕ) → ((bs : Text) → f ≡ 45 ∷ bs → ⊥) → number_in f ≡ Some m → capped m ≡ n → IsValue f (low n)
plain_is f m n other is under = by (nat_lt n 9223372036854775808) refl
  where
    spelled : f ≡ number_text m
    spelled = number_text-number_in f m is

    by : (b : Bool) → nat_lt n 9223372036854775808 ≡ b → IsValue f (if b then Some n else None)
    by true t =
        let few : n < 9223372036854775808 = grind (arith, nat_tests) in
        let same : m ≡ n = omega arith in
        (omega arith, spelled ∙ ap number_text same ∙ sym (value_low n few))
    by false t = λ w small e.
        ⊎_elim
        (λ lt.
        let same : m ≡ w = same_number m w (sym spelled ∙ (e ∙ value_low w lt)) in
        grind (arith, nat_tests))
        (λ ge. other (number_text (18446744073709551616 - w)) (e ∙ value_high w ge small))
        (cases_lt w 9223372036854775808)

pub plain_some : (f : Text) (n : ℕ) → ((bs : Text) → f ≡ 45 ∷ bs → ⊥) → Some n ≡ option_map capped (number_in f) → IsValue f (low n)
plain_some f n other h = let m = map_some capped (number_in f) n (sym h) in plain_is f m.0 n other m.1 m.2
