use Rattle.std.proofs.Common.{[]}
use Rattle.race_pairs.specs.Gains.{Gains, Below}
use Rattle.race_pairs.specs.Groups.{StandsFrom}
use Rattle.race_pairs.proofs.grouping.places_between.Given as goal

abbrev pub invariant-loop-at : goal.invariant-loop-at
invariant-loop-at l = Gains (Below l.at (StandsFrom l.touches l.from)) [] l.all.items
