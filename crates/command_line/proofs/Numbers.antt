-- The number that a text is, and what `parse` says of it.
use Rattle.std.proofs.Common.{◌≡◌, sym, ◌∙◌, ap, subst, ℕ, ℤ, pos, negsuc, w64, ◌<◌, ◌≤◌, ◌^◌, true, false, ◌&&◌, if◌then◌else◌, List, Some, None, Result, Ok, Err, bytes_eq, decimal, nat_le, arith, le-leb, leb-true}
use Rattle.std.specs.Fmt.{signed_decimal}
use Rattle.std.specs.Int.Signed.{mag}
use Rattle.std.specs.Str.Parse.{digits_value, signed_digits_value, ParsesSigned, ParsesUnsigned}
use Rattle.std.proofs.lemmas.Bool.{and_from, and_parts, cond-true, cond-false, false_from_ne_true}
use Rattle.std.proofs.lemmas.Fmt.{decimal_is_IsNumeral, parse-decimal, parse-signed_decimal}
use Rattle.std.proofs.lemmas.Slice.Eq.{bytes_eq-Decides}
use Rattle.command_line.specs.Arguments.{number_within}
use Rattle.command_line.specs.Predicates.{is_signed, signed_number}

chosen : (low high m n : ℕ) (text : List ℕ) → m ≡ n → decimal n ≡ text → low ≤ n → n ≤ high → (if bytes_eq (decimal m) text && (nat_le low m && nat_le m high) then Some m else None) ≡ Some n
chosen low high m n text e d l h =
    let same : bytes_eq (decimal m) text ≡ true = (bytes_eq-Decides (decimal m) text).1 (ap decimal e ∙ d) in
    let above : nat_le low m ≡ true = le-leb low m (omega arith) in
    let below : nat_le m high ≡ true = le-leb m high (omega arith) in
    cond-true (bytes_eq (decimal m) text && (nat_le low m && nat_le m high)) (Some m) None (and_from _ _ same (and_from _ _ above below)) ∙ ap Some e

-- a number within the bounds is read from its digits
pub within : (low high n : ℕ) (text : List ℕ) → n < 2 ^ 32 → decimal n ≡ text → low ≤ n → n ≤ high → Some n ≡ number_within low high text
within low high n text small d l h =
    let value : digits_value 10 text ≡ n = ap (digits_value 10) (sym d) ∙ (decimal_is_IsNumeral n (omega arith)).1 in
    sym (chosen low high (digits_value 10 text) n text value d l h)

-- a text that isn't the digits of a number within the bounds is none
pub not_within : (low high : ℕ) (text : List ℕ) → ((n : ℕ) → decimal n ≡ text → low ≤ n → n ≤ high → ⊥) → None ≡ number_within low high text
not_within low high text h =
    let n = digits_value 10 text in
    let fails : (bytes_eq (decimal n) text && (nat_le low n && nat_le n high)) ≡ false =
    false_from_ne_true _ (λ t.
    let p = and_parts (bytes_eq (decimal n) text) (nat_le low n && nat_le n high) t in
    let q = and_parts (nat_le low n) (nat_le n high) p.1 in
    h n ((bytes_eq-Decides (decimal n) text).0 p.0) (leb-true low n q.0) (leb-true n high q.1)) in
    sym (cond-false (bytes_eq (decimal n) text && (nat_le low n && nat_le n high)) (Some n) None fails)

-- the digits of a number within the bounds are parsed as that
pub parsed : {E : Type 0} (high n : ℕ) (text : List ℕ) (r : Result ℕ E) → high < 2 ^ 32 → ParsesUnsigned 32 10 text r → decimal n ≡ text → n ≤ high → r ≡ Ok n
parsed high n text r small p d h = parse-decimal 32 n text r (omega arith) (omega arith) (sym d) p

-- what isn't parsed is no such number
pub unparsed : {E : Type 0} (low high : ℕ) (text : List ℕ) (r : Result ℕ E) (e : E) → high < 2 ^ 32 → ParsesUnsigned 32 10 text r → r ≡ Err e → None ≡ number_within low high text
unparsed low high text r e small p is =
    not_within low high text (λ n d l h. let ok : r ≡ Ok n = parsed high n text r small p d h in cc)

-- nor is what is parsed as a number with other digits or outside the bounds
pub misread : {E : Type 0} (low high m : ℕ) (text : List ℕ) (r : Result ℕ E) → high < 2 ^ 32 → ParsesUnsigned 32 10 text r → r ≡ Ok m → (decimal m ≡ text → low ≤ m → m ≤ high → ⊥) → None ≡ number_within low high text
misread low high m text r small p is fails =
    not_within low high text
    (λ n d l h.
    let ok : r ≡ Ok n = parsed high n text r small p d h in
    let e : m ≡ n = cc in
    fails (ap decimal e ∙ d) (omega arith) (omega arith))

-- ---- signed numbers

is_small : (z : ℤ) → is_signed z ≡ true → mag z < 2 ^ 63
is_small (pos n) h = let l = leb-true n 9223372036854775807 h in omega (arith, l)
is_small (negsuc n) h = let l = leb-true n 9223372036854775807 h in omega (arith, l)

small_is : (z : ℤ) → mag z < 2 ^ 63 → is_signed z ≡ true
small_is (pos n) h = le-leb n 9223372036854775807 (omega (arith, h))
small_is (negsuc n) h = le-leb n 9223372036854775807 (omega (arith, h))

module _ {E : Type 0} (text : List ℕ) (r : Result ℤ E) (p : ParsesSigned w64 10 text r) where
  -- what is parsed and written back as the same text
  pub signed_read : (m : ℤ) → r ≡ Ok m → bytes_eq (signed_decimal m) text ≡ true → Some m ≡ signed_number text
  signed_read m is same =
      let h = subst (ParsesSigned w64 10 text) is p in
      let z = signed_digits_value 10 text in
      let e : m ≡ z = h.1 in
      let written : bytes_eq (signed_decimal z) text ≡ true = ap (λ y. bytes_eq (signed_decimal y) text) (sym e) ∙ same in
      ap Some e ∙ sym (cond-true (bytes_eq (signed_decimal z) text && is_signed z) (Some z) None (and_from _ _ written (small_is z h.0.1.sfits)))

  pub signed_misread : (m : ℤ) → r ≡ Ok m → bytes_eq (signed_decimal m) text ≡ false → None ≡ signed_number text
  signed_misread m is other =
      let h = subst (ParsesSigned w64 10 text) is p in
      let z = signed_digits_value 10 text in
      let written : bytes_eq (signed_decimal z) text ≡ false = ap (λ y. bytes_eq (signed_decimal y) text) (sym h.1) ∙ other in
      sym (cond-false (bytes_eq (signed_decimal z) text && is_signed z) (Some z) None (ap (λ b. b && is_signed z) written))

  pub signed_unread : (e : E) → r ≡ Err e → None ≡ signed_number text
  signed_unread e is =
      let z = signed_digits_value 10 text in
      sym (cond-false (bytes_eq (signed_decimal z) text && is_signed z) (Some z) None
      (false_from_ne_true _ (λ t.
      let q = and_parts (bytes_eq (signed_decimal z) text) (is_signed z) t in
      let small = is_small z q.1 in
      let ok : r ≡ Ok z = parse-signed_decimal w64 z text r (record { sfits = small }) small (sym ((bytes_eq-Decides (signed_decimal z) text).0 q.0)) p in cc)))
