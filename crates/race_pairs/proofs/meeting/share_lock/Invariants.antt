use Rattle.std.proofs.Common.{◌≡◌, ℕ, ◌<◌, Some}
use Rattle.std.specs.Prelude.{slice_get}
use Rattle.std.specs.List.{Contains}
use Rattle.race_pairs.proofs.meeting.share_lock.Given as goal

abbrev pub invariant-loop-cell : goal.invariant-loop-cell
invariant-loop-cell l = (k n : ℕ) → k < l.cell-index → slice_get l.cells k ≡ Some n → Contains l.others n → ⊥
