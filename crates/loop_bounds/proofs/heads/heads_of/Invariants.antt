use Rattle.std.proofs.Common.{◌≡◌, ◌≤◌, ℕ, drop, length}
use Rattle.std.specs.Prelude.{nat_eq}
use Rattle.std.specs.HashMap.{get}
use Rattle.loop_bounds.specs.Tables.{first_at}
use Rattle.loop_bounds.proofs.heads.heads_of.Given as goal

abbrev pub invariant-loop-place : goal.invariant-loop-place
invariant-loop-place l = (l.place ≤ length l.loops) × ((m : ℕ) → get nat_eq l.heads m ≡ first_at (drop l.place l.loops) m)

abbrev pub decreases-loop-place : goal.decreases-loop-place
decreases-loop-place l = l.place
