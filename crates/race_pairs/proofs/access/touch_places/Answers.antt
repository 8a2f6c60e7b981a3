use Rattle.std.proofs.Common.{arith, length}
use Rattle.race_pairs.proofs.Elements.{gets}
use Rattle.race_pairs.proofs.Touching.{AtPlace, place_more, places_all, ends}
use Rattle.race_pairs.proofs.access.touch_places.Goals as goal

pub loop-place-preserved : goal.loop-place-preserved
loop-place-preserved c = place_more c.args.places.now c.args.access c.loop-place.place-index _ c.args.touches.now.items c.loop-place.touches.items c.push.new.self.items (gets c.args.places.now c.loop-place.place-index _ (omega arith)) c.in_ok-push.ensures.items c.loop-place.invariant

pub returns : goal.returns
returns c = places_all c.args.places.now c.args.access c.args.touches.now.items c.loop-place.touches.items (ends (AtPlace c.args.places.now c.args.access) c.loop-place.place-index (length c.args.places.now) c.args.touches.now.items c.loop-place.touches.items (omega arith) c.loop-place.invariant)
