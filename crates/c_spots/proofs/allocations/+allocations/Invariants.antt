use Rattle.std.proofs.Common.{◌≡◌, ◌++◌, drop, map}
use Rattle.c_tree.specs.Tree.{listed}
use Rattle.c_tree.specs.View.{exp_of}
use Rattle.c_spots.specs.Spots.{all_allocations}
use Rattle.c_spots.specs.SpotViews.{shown_spots}
use Rattle.c_spots.proofs.allocations.+allocations.Given as goal

-- what is pushed and the rest make the whole
abbrev pub invariant-push_all_allocations-loop-e : goal.invariant-push_all_allocations-loop-e
invariant-push_all_allocations-loop-e g l =
    shown_spots l.out ++ all_allocations (g.N.Names.known l.names) (listed (map exp_of (drop l.e-index l.es)))
    ≡ shown_spots l.fn.out ++ all_allocations (g.N.Names.known l.fn.names) (listed (map exp_of l.fn.es))
