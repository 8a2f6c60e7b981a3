use Rattle.race_pairs.specs.Gains.{Gains, Below}
use Rattle.race_pairs.specs.Touches.{TouchesNth}
use Rattle.race_pairs.proofs.access.touch_all.Given as goal

abbrev pub invariant-loop-index : goal.invariant-loop-index
invariant-loop-index l = Gains (Below l.index (TouchesNth l.code l.points l.root l.guarded)) l.initial.touches.items l.touches.items
