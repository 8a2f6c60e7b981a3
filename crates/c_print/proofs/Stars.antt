-- One star after another.
use Rattle.std.proofs.Common.{◌≡◌, ℕ, zero, suc, ◌<◌, ◌-◌, ◌∷◌, ap, arith}
use Rattle.c_lexer.specs.declared.token.Punct.TheVariants as punct
use Rattle.c_print.specs.Kinds.{p, stars_kinds}

pub stars_kinds-more : (n m : ℕ) → 0 < n → m ≡ n - 1 → stars_kinds n ≡ p punct.Star ∷ stars_kinds m
stars_kinds-more zero m h e = absurd (omega arith)
stars_kinds-more (suc n) m h e = let same : n ≡ m = omega (arith, e) in ap (λ z. p punct.Star ∷ stars_kinds z) same
