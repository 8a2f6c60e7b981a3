use Rattle.std.proofs.Common.{◌≡◌, ◌++◌, drop, map}
use Rattle.c_tree.specs.View.{exp_of}
use Rattle.c_print.specs.Kinds.{length_kinds}
use Rattle.c_print.proofs.print.print_lengths.Given as goal

-- what is printed and the rest make the whole
abbrev pub invariant-loop-length : goal.invariant-loop-length
invariant-loop-length l = l.out ++ length_kinds (map exp_of (drop l.length-index l.lengths)) ≡ l.fn.out ++ length_kinds (map exp_of l.fn.lengths)
