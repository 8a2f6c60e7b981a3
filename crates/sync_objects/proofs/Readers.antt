-- The bit of a thread among the readers of a read-write lock.
use Rattle.std.proofs.Common.{◌≡◌, ◌≢◌, ℕ, ◌+◌, ◌-◌, ◌*◌, ◌/◌, ◌%◌, ◌^◌, ◌<◌, ◌≤◌, ◌==◌, Bool, true, false, inl, inr, sym, ap, ◌∙◌, subst, arith}
use Rattle.std.proofs.lemmas.Bool.{eqb-true, eqb-false}
use Rattle.std.proofs.lemmas.Bool.Decides.{leb_tells}
use Rattle.std.proofs.lemmas.Nat.{pow_pos, pow-add, pow_below, shr_below, mod_below, div_below, mul-add-lt, div-add-mod'}

-- an even number below an even one isn't the last below it
even_below : (q half : ℕ) → q < half * 2 → q % 2 ≢ 1 → q + 1 < half * 2
even_below q half h odd = omega (arith, h, odd)

join_below : (q p m rows r : ℕ) → q + 1 < rows → m < p → q * p + m ≡ r → r + p < p * rows
join_below q p m rows r h k e = let f = mul-add-lt (q + 1) p m rows h k in omega (arith, f, e)

joins_at : (w t r : ℕ) → w + 1 + t ≡ 16 → r < 2 ^ 16 → r / 2 ^ t % 2 ≢ 1 → r + 2 ^ t < 2 ^ 16
joins_at w t r width h odd =
    let turned : t + (w + 1) ≡ 16 = omega (arith, width) in
    let whole : 2 ^ t * 2 ^ (w + 1) ≡ 2 ^ 16 = sym (pow-add 2 t (w + 1)) ∙ ap (λ z. 2 ^ z) turned in
    let doubled : 2 ^ (w + 1) ≡ 2 ^ w * 2 = pow-add 2 w 1 in
    let below : r / 2 ^ t < 2 ^ w * 2 = subst (λ z. r / 2 ^ t < z) doubled (shr_below r (w + 1) t (subst (λ z. r < 2 ^ z) (sym width) h)) in
    let next : r / 2 ^ t + 1 < 2 ^ (w + 1) = subst (λ z. r / 2 ^ t + 1 < z) (sym doubled) (even_below (r / 2 ^ t) (2 ^ w) below odd) in
    subst (λ z. r + 2 ^ t < z) whole (join_below (r / 2 ^ t) (2 ^ t) (r % 2 ^ t) (2 ^ (w + 1)) r next (mod_below r (2 ^ t) (pow_pos t)) (div-add-mod' r (2 ^ t)))

-- a thread that joins the readers keeps their sum below 2 ^ 16
pub joins_readers : (t r : ℕ) → t < 16 → r < 2 ^ 16 → (r / 2 ^ t % 2 == 1) ≡ false → r + 2 ^ t < 2 ^ 16
joins_readers t r small h e = joins_at (15 - t) t r (omega (arith, small)) h (eqb-false (r / 2 ^ t % 2) 1 e)

at_least : (r p : ℕ) → 0 < p → r / p % 2 ≡ 1 → p ≤ r
at_least r p pos odd =
    elim (leb_tells p r) [
      | inl le ↦ le.1
      | inr less ↦ let none : r / p < 1 = div_below r p 1 pos (omega (arith, less.1)) in omega (arith, none, odd)
    ]

-- the sum has the bit of a reader
pub covers : (t r : ℕ) → (r / 2 ^ t % 2 == 1) ≡ true → 2 ^ t ≤ r
covers t r e = at_least r (2 ^ t) (pow_pos t) (eqb-true (r / 2 ^ t % 2) 1 e)

-- a thread's bit is among the low 16
pub small_bit : (t : ℕ) → t < 16 → 2 ^ t < 65536
small_bit t h = pow_below t 16 h
