use Rattle.std.proofs.Common.{ℕ, map, Vec, Global}
use Rattle.points_to.proofs.Emptiness.{empty_sound}
use Rattle.points_to.proofs.ascending.Rows.new.Goals as goal

pub invariant_of-result : goal.invariant_of-result
invariant_of-result c = empty_sound (map (λ (row : Vec ℕ Global). row.items) c.loop-i.rows.items) c.loop-i.invariant.1
