use Rattle.std.proofs.Common.{◌≡◌, drop, map}
use Rattle.c_tree.specs.Tree.{listed_parts}
use Rattle.c_tree.specs.View.{part_of}
use Rattle.c_names.specs.Pointers.{parts_with}
use Rattle.c_names.proofs.pointers.+statement.Given as goal

-- the types so far, and those of the rest
abbrev pub invariant-add_parts-loop-part : goal.invariant-add_parts-loop-part
invariant-add_parts-loop-part g l =
    parts_with (g.N.Names.known l.names) l.types (listed_parts (map part_of (drop l.part-index l.parts)))
    ≡ parts_with (g.N.Names.known l.fn.names) l.fn.types (listed_parts (map part_of l.fn.parts))
