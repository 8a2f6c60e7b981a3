use Rattle.std.proofs.Common.{◌≡◌, ◌++◌, drop, map}
use Rattle.c_tree.specs.Tree.{listed}
use Rattle.c_tree.specs.View.{exp_of}
use Rattle.c_print.specs.Kinds.{rest_kinds, exps_kinds}
use Rattle.c_print.proofs.print.+print.Given as goal

-- what is printed and the rest make the whole
abbrev pub invariant-print_rest-loop-e : goal.invariant-print_rest-loop-e
invariant-print_rest-loop-e l = l.out ++ rest_kinds (listed (map exp_of (drop l.e-index l.rest))) ≡ l.fn.out ++ rest_kinds (listed (map exp_of l.fn.rest))

abbrev pub invariant-print_arguments-loop-argument : goal.invariant-print_arguments-loop-argument
invariant-print_arguments-loop-argument l =
    l.out ++ rest_kinds (listed (map exp_of (drop l.argument-index l.rest))) ≡ l.fn.out ++ exps_kinds (listed (map exp_of l.fn.arguments))
