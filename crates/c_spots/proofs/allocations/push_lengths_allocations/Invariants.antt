use Rattle.std.proofs.Common.{◌≡◌, ◌++◌, drop, map}
use Rattle.c_tree.specs.View.{exp_of}
use Rattle.c_spots.specs.Spots.{lengths_allocations}
use Rattle.c_spots.specs.SpotViews.{shown_spots}
use Rattle.c_spots.proofs.allocations.push_lengths_allocations.Given as goal

-- what is pushed and the rest make the whole
abbrev pub invariant-loop-length : goal.invariant-loop-length
invariant-loop-length g l =
    shown_spots l.out ++ lengths_allocations (g.N.Names.known l.names) (map exp_of (drop l.length-index l.lengths))
    ≡ shown_spots l.fn.out ++ lengths_allocations (g.N.Names.known l.fn.names) (map exp_of l.fn.lengths)
