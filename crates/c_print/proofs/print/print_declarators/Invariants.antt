use Rattle.std.proofs.Common.{◌≡◌, ◌++◌, drop, map}
use Rattle.c_tree.specs.View.{declared_of}
use Rattle.c_print.specs.Kinds.{rest_declared_kinds, all_declared_kinds}
use Rattle.c_print.proofs.print.print_declarators.Given as goal

-- what is printed and the rest make the whole
abbrev pub invariant-loop-declarator : goal.invariant-loop-declarator
invariant-loop-declarator l = l.out ++ rest_declared_kinds (map declared_of (drop l.declarator-index l.rest)) ≡ l.fn.out ++ all_declared_kinds (map declared_of l.fn.declarators)
