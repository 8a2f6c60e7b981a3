use Rattle.std.proofs.Common.{◌≡◌, drop, map}
use Rattle.c_tree.specs.View.{declared_of}
use Rattle.c_names.specs.Pointers.{members_with}
use Rattle.c_names.proofs.pointers.add_members.Given as goal

-- the types so far, and those of the rest
abbrev pub invariant-loop-declarator : goal.invariant-loop-declarator
invariant-loop-declarator g l =
    members_with (g.N.Names.known l.names) l.members.specifier l.types (map declared_of (drop l.declarator-index l.members.declarators))
    ≡ members_with (g.N.Names.known l.fn.names) l.fn.members.specifier l.fn.types (map declared_of l.fn.members.declarators)
