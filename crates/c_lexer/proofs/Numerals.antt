-- Laws of digits.
use Rattle.std.proofs.Common.{◌≡◌, ℕ, zero, suc, ◌≤◌, ◌<◌, ◌+◌, ◌*◌, ◌^◌, Bool, true, false, List, [], ◌∷◌, arith, length, drop, get_or, drop-cons, refl, sym, ◌∙◌, ap, None, ◌&&◌}
use Rattle.std.proofs.lemmas.Bool.Decides.{nat_tests}
use Rattle.std.specs.Char.{digit_value, is_digit, is_ascii_digit}
use Rattle.std.specs.List.{prefix_len}
use Rattle.rr_base.specs.Texts.{Text}
use Rattle.c_lexer.specs.Numbers.{digits_value, narrow, based, begins_hexadecimal}

times : (base v : ℕ) → 1 ≤ base → v ≤ v * base
times base v h = grind arith

-- more digits make no smaller number
pub digits_value-above : (base v : ℕ) (bs : List ℕ) → 1 ≤ base → v ≤ digits_value base v bs
digits_value-above base v [] h = omega arith
digits_value-above base v (b ∷ bs) h = omega (arith, times base v h, digits_value-above base (v * base + digit_value b) bs h)

pub digits_value-next : (base v i : ℕ) (bs : List ℕ) → 1 ≤ base → i < length bs → v * base + digit_value (get_or bs i 0) ≤ digits_value base v (drop i bs)
digits_value-next base v i bs one h = rw (drop-cons bs i 0) (digits_value-above base (v * base + digit_value (get_or bs i 0)) (drop (suc i) bs) one)

pub narrow-wide : (v : ℕ) → 2 ^ 63 ≤ v → narrow v ≡ None
narrow-wide v h = grind (arith, nat_tests)

-- a digit is one of the digits
some : (p : ℕ → Bool) (xs : List ℕ) → p 0 ≡ false → p (get_or xs 0 0) ≡ true → 1 ≤ prefix_len p xs
some p [] z h = let e : false ≡ true = sym z ∙ h in cc
some p (x ∷ xs) z h = rw h (omega arith)

get_or-drop_front : (xs : List ℕ) (i : ℕ) → get_or (drop i xs) 0 0 ≡ get_or xs i 0
get_or-drop_front [] zero = refl
get_or-drop_front [] (suc i) = refl
get_or-drop_front (x ∷ xs) zero = refl
get_or-drop_front (x ∷ xs) (suc i) = get_or-drop_front xs i

based-some : (base skip : ℕ) (text : Text) → base ≤ 36 → is_digit (get_or text skip 0) base ≡ true → 1 ≤ (based base skip text).len
unfolding based
based-some base skip text small h =
    let none : is_digit 0 base ≡ false = grind (arith, nat_tests) in
    let one = some (λ b. is_digit b base) (drop skip text) none (ap (λ b. is_digit b base) (get_or-drop_front text skip) ∙ h) in
    omega (arith, one)

both : (a b : Bool) → (a && b) ≡ true → b ≡ true
both true b h = h
both false b h = cc

-- so each number has a digit
pub hexadecimal-some : (text : Text) → begins_hexadecimal text ≡ true → 1 ≤ (based 16 2 text).len
hexadecimal-some text h = based-some 16 2 text (omega arith) (both _ (is_digit (get_or text 2 0) 16) h)

pub octal-some : (text : Text) → get_or text 0 0 ≡ 48 → 1 ≤ (based 8 0 text).len
octal-some text h = based-some 8 0 text (omega arith) (rw h refl)

decimal : (b : ℕ) → is_ascii_digit b ≡ true → is_digit b 10 ≡ true
decimal b h = grind (arith, nat_tests)

pub decimal-some : (text : Text) → is_ascii_digit (get_or text 0 0) ≡ true → 1 ≤ (based 10 0 text).len
decimal-some text h = based-some 10 0 text (omega arith) (decimal (get_or text 0 0) h)
