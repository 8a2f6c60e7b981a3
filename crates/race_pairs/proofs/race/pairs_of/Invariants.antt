use Rattle.std.proofs.Common.{[]}
use Rattle.race_pairs.specs.Gains.{Gains, Below}
use Rattle.race_pairs.specs.Races.{PairsFrom}
use Rattle.race_pairs.proofs.race.pairs_of.Given as goal

abbrev pub invariant-loop-from : goal.invariant-loop-from
invariant-loop-from l = Gains (Below l.from (PairsFrom l.groups)) [] l.found.items
