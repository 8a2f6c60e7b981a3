use Rattle.std.proofs.Common.{◌≡◌, drop, map}
use Rattle.c_tree.specs.View.{fields_of}
use Rattle.c_names.specs.Pointers.{fields_with}
use Rattle.c_names.proofs.pointers.add_fields.Given as goal

-- the types so far, and those of the rest
abbrev pub invariant-loop-members : goal.invariant-loop-members
invariant-loop-members g l =
    fields_with (g.N.Names.known l.names) l.types (map fields_of (drop l.members-index l.fields))
    ≡ fields_with (g.N.Names.known l.fn.names) l.fn.types (map fields_of l.fn.fields)
