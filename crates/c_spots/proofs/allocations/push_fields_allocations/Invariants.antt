use Rattle.std.proofs.Common.{◌≡◌, ◌++◌, drop, map}
use Rattle.c_tree.specs.View.{fields_of}
use Rattle.c_spots.specs.Spots.{fields_allocations}
use Rattle.c_spots.specs.SpotViews.{shown_spots}
use Rattle.c_spots.proofs.allocations.push_fields_allocations.Given as goal

-- what is pushed and the rest make the whole
abbrev pub invariant-loop-member : goal.invariant-loop-member
invariant-loop-member g l =
    shown_spots l.out ++ fields_allocations (g.N.Names.known l.names) (map fields_of (drop l.member-index l.members))
    ≡ shown_spots l.fn.out ++ fields_allocations (g.N.Names.known l.fn.names) (map fields_of l.fn.members)
