use Rattle.std.proofs.Common.{◌≡◌, Some}
use Rattle.std.specs.Prelude.{slice_get}
use Rattle.race_pairs.specs.declared.touch.Group.{Group}
use Rattle.race_pairs.specs.Gains.{Gains, Below}
use Rattle.race_pairs.specs.Races.{PairAt, ArePaired}
use Rattle.race_pairs.proofs.race.add_from.Given as goal

abbrev pub invariant-loop-other : goal.invariant-loop-other
invariant-loop-other l =
    Gains (Below l.other (PairAt l.groups l.from)) l.initial.found.items l.found.items
    × ((g : Group) → slice_get l.groups l.from ≡ Some g → ArePaired g l.paired l.found.items)
