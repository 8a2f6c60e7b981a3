use Rattle.std.proofs.Common.{◌≡◌, take}
use Rattle.weaken.proofs.copies.copied_sites.Given as goal

abbrev pub invariant-loop-site : goal.invariant-loop-site
invariant-loop-site l = l.copies ≡ take l.site-index l.sites
