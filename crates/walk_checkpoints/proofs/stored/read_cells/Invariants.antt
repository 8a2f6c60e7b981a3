use Rattle.std.proofs.Common.{◌<◌, ◌^◌, ℕ, length}
use Rattle.std.specs.List.{AllByRecursion}
use Rattle.walk_checkpoints.proofs.stored.read_cells.Given as goal

abbrev pub invariant-loop-rest : goal.invariant-loop-rest
invariant-loop-rest l = AllByRecursion (λ (c : ℕ × ℕ). c.1 < 2 ^ 64) l.rest → AllByRecursion (λ (c : ℕ × ℕ). c.1 < 2 ^ 64) l.cells

abbrev pub decreases-loop-rest : goal.decreases-loop-rest
decreases-loop-rest l = length l.rest
