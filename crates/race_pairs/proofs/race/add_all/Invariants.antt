use Rattle.race_pairs.specs.Gains.{Gains, Below}
use Rattle.race_pairs.proofs.Pairing.{RowOf}
use Rattle.race_pairs.proofs.race.add_all.Given as goal

abbrev pub invariant-loop-at : goal.invariant-loop-at
invariant-loop-at l = Gains (Below l.at (RowOf l.group l.other l.is_same)) l.initial.found.items l.found.items
