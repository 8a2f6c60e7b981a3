use Rattle.std.proofs.Common.{◌≡◌, ◌++◌, length}
use Rattle.c_spots.specs.SpotViews.{shown_spots}
use Rattle.c_globals.specs.Globals as spec
use Rattle.c_globals.proofs.globals.global_kinds.Given as goal

-- those so far and the rest make the whole
abbrev pub invariant-loop-spots : goal.invariant-loop-spots
invariant-loop-spots l = l.kinds ++ spec.global_kinds (shown_spots l.spots) l.sites ≡ spec.global_kinds (shown_spots l.fn.spots) l.fn.sites

abbrev pub decreases-loop-spots : goal.decreases-loop-spots
decreases-loop-spots l = length l.spots
