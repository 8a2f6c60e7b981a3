use Rattle.std.proofs.Common.{◌≡◌, ◌++◌, drop, map}
use Rattle.c_tree.specs.Tree.{listed_inits}
use Rattle.c_tree.specs.View.{init_of}
use Rattle.c_spots.specs.Spots.{initials_allocations}
use Rattle.c_spots.specs.SpotViews.{shown_spots}
use Rattle.c_spots.proofs.allocations.+initial_allocations.Given as goal

-- what is pushed and the rest make the whole
abbrev pub invariant-push_initials_allocations-loop-initial : goal.invariant-push_initials_allocations-loop-initial
invariant-push_initials_allocations-loop-initial g l =
    shown_spots l.out ++ initials_allocations (g.N.Names.known l.names) (listed_inits (map init_of (drop l.initial-index l.initials)))
    ≡ shown_spots l.fn.out ++ initials_allocations (g.N.Names.known l.fn.names) (listed_inits (map init_of l.fn.initials))
