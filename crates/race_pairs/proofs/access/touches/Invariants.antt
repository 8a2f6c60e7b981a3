use Rattle.std.proofs.Common.{[]}
use Rattle.race_pairs.specs.Gains.{Gains, Below}
use Rattle.race_pairs.specs.Touches.{TouchesRoot}
use Rattle.race_pairs.proofs.access.touches.Given as goal

abbrev pub invariant-loop-root : goal.invariant-loop-root
invariant-loop-root l = Gains (Below l.root (TouchesRoot l.code l.points l.summaries)) [] l.all.items
