use Rattle.std.proofs.Common.{◌≡◌, ◌++◌, drop, map}
use Rattle.c_tree.specs.View.{object_of}
use Rattle.c_print.specs.Kinds.{rest_objects_kinds, objects_kinds}
use Rattle.c_print.proofs.print.print_items.Given as goal

-- what is printed and the rest make the whole
abbrev pub invariant-loop-item : goal.invariant-loop-item
invariant-loop-item l = l.out ++ rest_objects_kinds (map object_of (drop l.item-index l.rest)) ≡ l.fn.out ++ objects_kinds (map object_of l.fn.items)
