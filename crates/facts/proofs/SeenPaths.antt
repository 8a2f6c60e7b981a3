-- Paths of a called function as its caller sees them.
use Rattle.std.proofs.Common.{◌≡◌, ℕ, zero, suc, ◌<◌, List, [], ◌∷◌, length, get_or, refl, sym, ap, ◌∙◌, arith, Option, Some, None}
use Rattle.facts.specs.declared.locks.LockPath.{LockPath}
use Rattle.facts.specs.declared.locks.Minus.TheVariants.{All}
use Rattle.facts.specs.Paths.{substituted}
use Rattle.facts.specs.Locks.{minus_with, listed_seen}

minus_all : (o : Option LockPath) → minus_with o All ≡ All
minus_all None = refl
minus_all (Some p) = refl

-- one path that the caller doesn't know may be any lock
pub listed_unknown : (actuals : List (Option LockPath)) (ps : List LockPath) (k : ℕ) (d : LockPath) (o : Option LockPath) → k < length ps → o ≡ substituted (get_or ps k d) actuals → o ≡ None → listed_seen actuals ps ≡ All
listed_unknown actuals [] k d o lt e h = absurd (omega arith)
listed_unknown actuals (p ∷ ps) zero d o lt e h = ap (λ z. minus_with z (listed_seen actuals ps)) (sym e ∙ h)
listed_unknown actuals (p ∷ ps) (suc k) d o lt e h = ap (minus_with (substituted p actuals)) (listed_unknown actuals ps k d o (omega arith) e h) ∙ minus_all (substituted p actuals)
