-- Cells that are counted one after another.
use Rattle.std.proofs.Common.{◌≡◌, ℕ, ◌+◌, arith}
use Rattle.c_types.specs.Scopes.{counted_cells}

-- those that were counted before, and more
pub counted_more : (a b c : ℕ) → counted_cells (counted_cells (a + b) + c) ≡ counted_cells (a + (b + c))
counted_more a b c = omega arith
