use Rattle.std.proofs.Common.{◌≡◌, ◌++◌, drop, map}
use Rattle.c_tree.specs.Tree.{listed_inits}
use Rattle.c_tree.specs.View.{init_of}
use Rattle.c_print.specs.Kinds.{rest_init_kinds, inits_kinds}
use Rattle.c_print.proofs.print.+print_initial.Given as goal

-- what is printed and the rest make the whole
abbrev pub invariant-print_initials-loop-initial : goal.invariant-print_initials-loop-initial
invariant-print_initials-loop-initial l = l.out ++ rest_init_kinds (listed_inits (map init_of (drop l.initial-index l.rest))) ≡ l.fn.out ++ inits_kinds (listed_inits (map init_of l.fn.initials))
