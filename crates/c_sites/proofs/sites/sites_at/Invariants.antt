use Rattle.std.proofs.Common.{◌≡◌, map, take}
use Rattle.c_sites.specs.Sites.{site_of}
use Rattle.c_spots.specs.SpotViews.{shown_spot}
use Rattle.c_sites.proofs.sites.sites_at.Given as goal

abbrev pub invariant-loop-spot : goal.invariant-loop-spot
invariant-loop-spot l = l.sites ≡ map (site_of l.structs) (map shown_spot (take l.spot-index l.spots))
