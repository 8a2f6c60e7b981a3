use Rattle.std.proofs.Common.{◌≡◌, ◌++◌}
use Rattle.c_print.specs.Kinds.{stars_kinds}
use Rattle.c_print.proofs.print.put_stars.Given as goal

-- what is printed and the rest make the whole
abbrev pub invariant-loop-left : goal.invariant-loop-left
invariant-loop-left l = l.out ++ stars_kinds l.left ≡ l.fn.out ++ stars_kinds l.fn.stars

abbrev pub decreases-loop-left : goal.decreases-loop-left
decreases-loop-left l = l.left
