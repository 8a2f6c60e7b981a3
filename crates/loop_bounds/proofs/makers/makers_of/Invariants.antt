use Rattle.std.proofs.Common.{◌≡◌, ℕ}
use Rattle.std.specs.Prelude.{nat_eq}
use Rattle.std.specs.HashMap.{get}
use Rattle.loop_bounds.specs.Tables.{makers_in}
use Rattle.loop_bounds.proofs.makers.makers_of.Given as goal

abbrev pub invariant-loop-at : goal.invariant-loop-at
invariant-loop-at l = (r : ℕ) → get nat_eq l.makers r ≡ makers_in l.instrs l.at r
