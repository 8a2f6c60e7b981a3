use Rattle.std.proofs.Common.{◌≡◌, ◌++◌, drop, map}
use Rattle.c_tree.specs.Tree.{listed_parts}
use Rattle.c_tree.specs.View.{part_of}
use Rattle.c_print.specs.Kinds.{parts_kinds}
use Rattle.c_print.proofs.print.+print_stmt.Given as goal

-- what is printed and the rest make the whole
abbrev pub invariant-print_parts-loop-part : goal.invariant-print_parts-loop-part
invariant-print_parts-loop-part l = l.out ++ parts_kinds (listed_parts (map part_of (drop l.part-index l.parts))) ≡ l.fn.out ++ parts_kinds (listed_parts (map part_of l.fn.parts))
