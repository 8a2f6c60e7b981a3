use Rattle.std.proofs.Common.{◌∙◌}
use Rattle.grain_choice.proofs.Ascents.{found, absent}
use Rattle.grain_choice.proofs.accesses.has.Goals as goal

pub returns-in-Some : goal.returns-in-Some
returns-in-Some c = c.eq.ensures ∙ found c.args.listed.now c.place_of-at.result c.args.access c.in-Some.other.now c.requires c.place_of-at.ensures.below c.place_of-at.ensures.above c.in-Some.ensures.lookup.3.0 c.in-Some.ensures.lookup.1

pub returns-in-None : goal.returns-in-None
returns-in-None c = absent c.args.listed.now c.place_of-at.result c.args.access c.requires c.place_of-at.ensures.below c.place_of-at.ensures.above c.in-None.ensures.lookup.3
