use Rattle.std.proofs.Common.{◌≡◌, ◌-◌, ◌++◌, drop, length, slice_get}
use Rattle.c_types.specs.Scopes.{members_of}
use Rattle.c_sites.specs.Sites.{known_types}
use Rattle.c_sites.proofs.sites.types_of_struct.Given as goal

-- the types that were read, and those of the members that are left
abbrev pub invariant-members : goal.invariant-members
invariant-members g l =
    l.types ++ known_types (drop l.index (members_of (slice_get (g.N.Names.known l.names).structs l.number)))
    ≡ known_types (members_of (slice_get (g.N.Names.known l.names).structs l.number))

abbrev pub decreases-members : goal.decreases-members
decreases-members g l = length (members_of (slice_get (g.N.Names.known l.names).structs l.number)) - l.index
