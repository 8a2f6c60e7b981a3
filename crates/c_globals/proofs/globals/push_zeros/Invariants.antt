use Rattle.std.proofs.Common.{◌≡◌, ◌++◌, replicate}
use Rattle.c_globals.proofs.globals.push_zeros.Given as goal

abbrev pub invariant-loop-cell : goal.invariant-loop-cell
invariant-loop-cell l = l.out ≡ l.fn.out ++ replicate l._cell 0
