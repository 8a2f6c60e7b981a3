use Rattle.std.proofs.Common.{◌≡◌, ◌+◌, ◌-◌, drop, slice_get}
use Rattle.c_types.specs.Scopes.{members_of}
use Rattle.c_names.specs.Table.{known_of}
use Rattle.c_operators.specs.Context.{cells_of_first}
use Rattle.c_operators.proofs.context.Source.cells_of_first.Given as goal

-- the cells so far and those of the members that are left make all
abbrev pub invariant-loop-index : goal.invariant-loop-index
invariant-loop-index l =
    l.cells + cells_of_first (known_of l.self.whole) (l.many - l.index) (drop l.index (members_of (slice_get (known_of l.self.whole).structs l.number)))
    ≡ cells_of_first (known_of l.self.whole) l.many (members_of (slice_get (known_of l.self.whole).structs l.number))
