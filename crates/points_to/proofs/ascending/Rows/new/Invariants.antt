use Rattle.std.proofs.Common.{◌≡◌, length, ℕ, map, []}
use Rattle.points_to.specs.Ascending.{row_of}
use Rattle.points_to.proofs.ascending.Rows.new.Given as goal

abbrev pub invariant-loop-i : goal.invariant-loop-i
invariant-loop-i l = (length l.rows.items ≡ l._i) × ((n : ℕ) → row_of (map (λ row. row.items) l.rows.items) n ≡ [])
