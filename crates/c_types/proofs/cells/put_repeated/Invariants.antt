use Rattle.std.proofs.Common.{◌≡◌, ◌++◌}
use Rattle.c_types.specs.Types.{repeated}
use Rattle.c_types.proofs.cells.put_repeated.Given as goal

-- what is put and the rest make the whole
abbrev pub invariant-loop-left : goal.invariant-loop-left
invariant-loop-left l = l.out ++ repeated l.left l.kinds ≡ l.fn.out ++ repeated l.fn.many l.fn.kinds

abbrev pub decreases-loop-left : goal.decreases-loop-left
decreases-loop-left l = l.left
