use Rattle.race_pairs.specs.Gains.{Gains, Below}
use Rattle.race_pairs.specs.Races.{RowAt}
use Rattle.race_pairs.proofs.race.add_row.Given as goal

abbrev pub invariant-loop-at : goal.invariant-loop-at
invariant-loop-at l = Gains (Below l.at (RowAt l.place l.access l.others l.from)) l.initial.found.items l.found.items
