use Rattle.std.proofs.Common.{◌≡◌, ◌++◌, drop, map}
use Rattle.c_tree.specs.View.{declared_of}
use Rattle.c_spots.specs.Spots.{members_allocations}
use Rattle.c_spots.specs.SpotViews.{shown_spots}
use Rattle.c_spots.proofs.allocations.push_members_allocations.Given as goal

-- what is pushed and the rest make the whole
abbrev pub invariant-loop-declarator : goal.invariant-loop-declarator
invariant-loop-declarator g l =
    shown_spots l.out ++ members_allocations (g.N.Names.known l.names) (map declared_of (drop l.declarator-index l.declarators))
    ≡ shown_spots l.fn.out ++ members_allocations (g.N.Names.known l.fn.names) (map declared_of l.fn.declarators)
