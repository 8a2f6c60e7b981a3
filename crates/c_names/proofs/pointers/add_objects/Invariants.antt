use Rattle.std.proofs.Common.{◌≡◌, drop, map}
use Rattle.c_tree.specs.View.{object_of}
use Rattle.c_names.specs.Pointers.{objects_with}
use Rattle.c_names.proofs.pointers.add_objects.Given as goal

-- the types so far, and those of the rest
abbrev pub invariant-loop-item : goal.invariant-loop-item
invariant-loop-item g l =
    objects_with (g.N.Names.known l.names) l.specifier l.types (map object_of (drop l.item-index l.items))
    ≡ objects_with (g.N.Names.known l.fn.names) l.fn.specifier l.fn.types (map object_of l.fn.items)
