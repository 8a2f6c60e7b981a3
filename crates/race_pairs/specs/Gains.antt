-- What a list gains: it keeps what it had, and has beside that just what a fact holds of.
use Rattle.std.specs.Prelude.{ℕ, ◌<◌, List, ◌⊎◌}
use Rattle.std.specs.List.{Contains}

-- the new list has the old items, those with the fact, and no others
pub record Gains {X : Type 0} (P : X → Type 0) (old new : List X) : Type 0 where
  pub kept : (x : X) → Contains old x → Contains new x
  pub gained : (x : X) → P x → Contains new x
  pub alone : (x : X) → Contains new x → Contains old x ⊎ P x

-- one of the numbers below n has it
abbrev pub Below : {X : Type 0} → ℕ → (ℕ → X → Type 0) → X → Type 0
Below n At x = (k : ℕ) × (k < n) × At k x
