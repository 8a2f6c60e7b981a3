use Rattle.std.proofs.Common.{◌≡◌, length, []}
use Rattle.c_spots.specs.SpotViews.{shown_spots}
use Rattle.c_globals.specs.Globals.{globals_after}
use Rattle.c_operators.specs.Views.{globals_of}
use Rattle.c_globals.proofs.globals.globals_in.Given as goal

-- those so far and the rest make the whole
abbrev pub invariant-loop-spots : goal.invariant-loop-spots
invariant-loop-spots l =
    globals_after l.site l.base (globals_of l.globals) (shown_spots l.spots) l.sites
    ≡ globals_after 1 0 [] (shown_spots l.fn.spots) l.fn.sites

abbrev pub decreases-loop-spots : goal.decreases-loop-spots
decreases-loop-spots l = length l.spots
