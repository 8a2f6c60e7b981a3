-- The product of a number of elements and of their cells, which is far within 128 bits.
use Rattle.std.proofs.Common.{◌≡◌, ℕ, ◌<◌, ◌≤◌, ◌*◌, ◌^◌, ap, subst, sym, ◌∙◌, arith, ℤ, pos, ◌*ℤ◌, to_z, of_z}
use Rattle.std.specs.Prelude.{FitsSigned, unsigned_abs}
use Rattle.std.specs.Int.{w128}
use Rattle.std.proofs.lemmas.Int.{to_z-of_z, fits_signed_from_abs, unsigned_abs-mul}
use Rattle.std.proofs.Math.Nat.{mul-le-mul}

-- a small number is the same after it is written and read
written : (z : ℤ) → unsigned_abs z ≤ 2 ^ 96 → to_z w128 (of_z w128 z) ≡ z
written z h = to_z-of_z w128 z (fits_signed_from_abs w128 z (omega (arith, h)))

pub product_small : (d : ℤ) (n : ℕ) → unsigned_abs d ≤ 2 ^ 63 → n < 2 ^ 32 → unsigned_abs (d *ℤ pos n) ≤ 2 ^ 96
product_small d n small fits =
    let few : n ≤ 2 ^ 33 = omega (arith, fits) in
    let most : unsigned_abs d * n ≤ 2 ^ 63 * 2 ^ 33 = mul-le-mul small few in
    subst (λ z. z ≤ 2 ^ 96) (sym (unsigned_abs-mul d (pos n))) most

module _ (d e : ℤ) (n : ℕ) (small : unsigned_abs d ≤ 2 ^ 63) (is : e ≡ pos n) (fits : n < 2 ^ 32) where
  read : to_z w128 (of_z w128 d) *ℤ to_z w128 (of_z w128 e) ≡ d *ℤ pos n
  read =
      let cells : unsigned_abs e ≤ 2 ^ 96 = subst (λ z. unsigned_abs z ≤ 2 ^ 96) (sym is) (omega (arith, fits)) in
      ap (λ z. z *ℤ to_z w128 (of_z w128 e)) (written d (omega (arith, small))) ∙ ap (λ z. d *ℤ z) (written e cells ∙ is)

  pub product_fits : FitsSigned w128 (to_z w128 (of_z w128 d) *ℤ to_z w128 (of_z w128 e))
  product_fits = fits_signed_from_abs w128 _ (subst (λ z. unsigned_abs z < 2 ^ 127) (sym read) (omega (arith, product_small d n small fits)))

  pub product_is : to_z w128 (of_z w128 (to_z w128 (of_z w128 d) *ℤ to_z w128 (of_z w128 e))) ≡ d *ℤ pos n
  product_is = to_z-of_z w128 _ product_fits ∙ read
