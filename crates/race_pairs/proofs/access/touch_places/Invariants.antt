use Rattle.race_pairs.specs.Gains.{Gains, Below}
use Rattle.race_pairs.proofs.Touching.{AtPlace}
use Rattle.race_pairs.proofs.access.touch_places.Given as goal

abbrev pub invariant-loop-place : goal.invariant-loop-place
invariant-loop-place l = Gains (Below l.place-index (AtPlace l.places l.access)) l.initial.touches.items l.touches.items
