use Rattle.race_pairs.proofs.Touching.{touched}
use Rattle.race_pairs.proofs.access.touch.Goals as goal

pub returns : goal.returns
returns c = touched c.args.code.now c.args.points.now c.args.root c.args.index c.args.guarded.now c.is_main.result c.places_of.result.now c.args.touches.now.items c.touch_places.new.touches.items c.touch_places.result c.is_main.ensures c.places_of.ensures c.touch_places.ensures
