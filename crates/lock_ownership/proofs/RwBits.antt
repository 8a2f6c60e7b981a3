-- The bits of the readers of a read-write lock: who joins them or leaves them changes no bit but its own.
use Rattle.std.proofs.Common.{◌≡◌, ◌≢◌, ℕ, zero, suc, ◌+◌, ◌-◌, ◌*◌, ◌/◌, ◌%◌, ◌^◌, ◌<◌, ◌≤◌, ◌==◌, true, false, inl, inr, refl, sym, ap, ◌∙◌, arith}
use Rattle.std.specs.Int.{bit_at}
use Rattle.std.proofs.lemmas.Bool.{eqb-true, eqb-false}
use Rattle.std.proofs.lemmas.Bool.Decides.{leb_tells}
use Rattle.std.proofs.lemmas.Nat.{pow_pos, mod_below, div-add-mod'}
use Rattle.std.proofs.lemmas.Nat.Bits.{bit_at_cat_low, bit_at_cat_high, bit_at-suc, bit_at-zero, bit_at-lt, bit_at_lowest}

-- two sums that agree in the low bits, and in the high ones but the first of these, differ at most in that one
agree_apart : (t u a b m : ℕ) → m < 2 ^ t → a / 2 ≡ b / 2 → u ≢ t → bit_at (a * 2 ^ t + m) u ≡ bit_at (b * 2 ^ t + m) u
agree_apart t u a b m small halves ne =
    elim (leb_tells t u) [
      | inl le ↦ high le.1
      | inr less ↦ bit_at_cat_low a t m u (omega (arith, less.1)) ∙ sym (bit_at_cat_low b t m u (omega (arith, less.1)))
    ]
  where
    above : (k : ℕ) → k ≢ 0 → bit_at a k ≡ bit_at b k
    above zero h = absurd (h refl)
    above (suc k) h = bit_at-suc a k ∙ ap (λ n. bit_at n k) halves ∙ sym (bit_at-suc b k)

    high : t ≤ u → bit_at (a * 2 ^ t + m) u ≡ bit_at (b * 2 ^ t + m) u
    high le = bit_at_cat_high a t m u small le ∙ above (u - t) (λ e. ne (omega (arith, e, le))) ∙ sym (bit_at_cat_high b t m u small le)

-- the bit where they differ
first_bit : (t a m : ℕ) → m < 2 ^ t → bit_at (a * 2 ^ t + m) t ≡ a % 2
first_bit t a m small = bit_at_cat_high a t m t small (omega arith) ∙ ap (bit_at a) (zeroed t) ∙ bit_at_lowest a
  where
    zeroed : (n : ℕ) → n - n ≡ 0
    zeroed n = omega arith

module _ (t r : ℕ) where
  low : r % 2 ^ t < 2 ^ t
  low = mod_below r (2 ^ t) (pow_pos t)

  whole : r ≡ r / 2 ^ t * 2 ^ t + r % 2 ^ t
  whole = sym (div-add-mod' r (2 ^ t))

  even : (r / 2 ^ t % 2 == 1) ≡ false → r / 2 ^ t % 2 ≡ 0
  even e = let ne = eqb-false (r / 2 ^ t % 2) 1 e in let small = bit_at-lt r t in omega (arith, ne, small)

  more : r + 2 ^ t ≡ (r / 2 ^ t + 1) * 2 ^ t + r % 2 ^ t
  more = ap (λ n. n + 2 ^ t) whole ∙ sum (r / 2 ^ t) (2 ^ t) (r % 2 ^ t)
    where
      sum : (q p m : ℕ) → q * p + m + p ≡ (q + 1) * p + m
      sum q p m = omega arith

  less : r / 2 ^ t % 2 ≡ 1 → r - 2 ^ t ≡ (r / 2 ^ t - 1) * 2 ^ t + r % 2 ^ t
  less odd = ap (λ n. n - 2 ^ t) whole ∙ ap (λ n. n * 2 ^ t + r % 2 ^ t - 2 ^ t) one_less ∙ difference (r / 2 ^ t - 1) (2 ^ t) (r % 2 ^ t)
    where
      one_less : r / 2 ^ t ≡ (r / 2 ^ t - 1) + 1
      one_less = omega (arith, odd)

      difference : (q p m : ℕ) → (q + 1) * p + m - p ≡ q * p + m
      difference q p m = omega arith

  -- who joins the readers
  pub joins_other : (u : ℕ) → u ≢ t → (r / 2 ^ t % 2 == 1) ≡ false → ((r + 2 ^ t) / 2 ^ u % 2 == 1) ≡ (r / 2 ^ u % 2 == 1)
  joins_other u ne e =
      let half : (r / 2 ^ t + 1) / 2 ≡ r / 2 ^ t / 2 = omega (arith, even e) in
      ap (λ b. b == 1)
      (ap (λ n. bit_at n u) more
      ∙ agree_apart t u (r / 2 ^ t + 1) (r / 2 ^ t) (r % 2 ^ t) low half ne
      ∙ ap (λ n. bit_at n u) (sym whole))

  -- and is one of them then
  pub joins_own : (r / 2 ^ t % 2 == 1) ≡ false → ((r + 2 ^ t) / 2 ^ t % 2 == 1) ≡ true
  joins_own e =
      let zero_is = even e in
      let odd : (r / 2 ^ t + 1) % 2 ≡ 1 = omega (arith, zero_is) in
      ap (λ n. bit_at n t == 1) more ∙ ap (λ b. b == 1) (first_bit t (r / 2 ^ t + 1) (r % 2 ^ t) low ∙ odd)

  -- and who leaves them
  pub leaves_other : (u : ℕ) → u ≢ t → (r / 2 ^ t % 2 == 1) ≡ true → ((r - 2 ^ t) / 2 ^ u % 2 == 1) ≡ (r / 2 ^ u % 2 == 1)
  leaves_other u ne e =
      let odd = eqb-true (r / 2 ^ t % 2) 1 e in
      let half : (r / 2 ^ t - 1) / 2 ≡ r / 2 ^ t / 2 = omega (arith, odd) in
      ap (λ b. b == 1)
      (ap (λ n. bit_at n u) (less odd)
      ∙ agree_apart t u (r / 2 ^ t - 1) (r / 2 ^ t) (r % 2 ^ t) low half ne
      ∙ ap (λ n. bit_at n u) (sym whole))

-- nobody is among no readers
pub no_reader : (u : ℕ) → (0 / 2 ^ u % 2 == 1) ≡ false
no_reader u = ap (λ b. b == 1) (bit_at-zero u)
