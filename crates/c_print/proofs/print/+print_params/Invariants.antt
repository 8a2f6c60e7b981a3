use Rattle.std.proofs.Common.{◌≡◌, ◌++◌, drop, map}
use Rattle.c_tree.specs.Tree.{listed_row}
use Rattle.c_tree.specs.View.{formal_of}
use Rattle.c_print.specs.Kinds.{formal_row_kinds, rest_formals_kinds}
use Rattle.c_print.proofs.print.+print_params.Given as goal

-- what is printed and the rest make the whole
abbrev pub invariant-print_listed-loop-param : goal.invariant-print_listed-loop-param
invariant-print_listed-loop-param l = l.out ++ rest_formals_kinds (listed_row (map formal_of (drop l.param-index l.rest))) ≡ l.fn.out ++ formal_row_kinds (listed_row (map formal_of l.fn.params))
