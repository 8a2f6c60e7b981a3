-- The first of some judgements that is false, by its line.
use Rattle.std.specs.Prelude.{◌≡◌, ℕ, ◌+◌, Bool, false, List, ◌++◌, length, take, Option, Some, None, slice_get}
use Rattle.order_log.specs.Reading.{shown}
use Rattle.snapshots.specs.Conditions.{AllFit}

-- all are true; or this is the line of the first that is false, where the first of all stands in line `at`
abbrev pub Misfits : List Bool → ℕ → Option ℕ → Type 0
Misfits bs at None = AllFit bs
Misfits bs at (Some line) = (k : ℕ) × (line ≡ shown (at + k)) × AllFit (take k bs) × (slice_get bs k ≡ Some false)

-- so far all are true, and these are left, the first of them in line `line`
pub record Judging (all left : List Bool) (at line : ℕ) : Type 0 where
  pub front : List Bool
  pub fit : AllFit front
  pub parts : all ≡ front ++ left
  pub here : line ≡ shown (at + length front)
