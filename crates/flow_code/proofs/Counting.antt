-- One step of what goes over numbers, from one to before another.
use Rattle.std.proofs.Common.{◌≡◌, ℕ, suc, ◌+◌, ◌-◌, ◌<◌, ◌||◌, Bool, if◌then◌else◌, Some, ap, arith}
use Rattle.flow_code.specs.Stripes.{any_from, first_from, and_stripe, stripes_from}

one_less : (k following : ℕ) → k < following → following - k ≡ suc (following - (k + 1))
one_less k following h = omega arith

pub any_step : (p : ℕ → Bool) (k following : ℕ) → k < following → any_from p (following - k) k ≡ (p k || any_from p (following - (k + 1)) (k + 1))
any_step p k following h = ap (λ n. any_from p n k) (one_less k following h)

pub first_step : (p : ℕ → Bool) (k following : ℕ) → k < following → first_from p (following - k) k ≡ (if p k then Some k else first_from p (following - (k + 1)) (k + 1))
first_step p k following h = ap (λ n. first_from p n k) (one_less k following h)

pub stripes_step : (p : ℕ → Bool) (k following : ℕ) → k < following → stripes_from p (following - k) k ≡ and_stripe (p k) k (stripes_from p (following - (k + 1)) (k + 1))
stripes_step p k following h = ap (λ n. stripes_from p n k) (one_less k following h)
