use Rattle.std.proofs.Common.{sym, subst, List}
use Rattle.std.specs.Prelude.{◌↔◌}
use Rattle.std.specs.List.{Contains}
use Rattle.facts.specs.declared.pair.Pair.{Pair}
use Rattle.race_pairs.proofs.found.make_room.Goals as goal

pub returns : goal.returns
returns c p = subst (λ (vs : List Pair). Contains vs p ↔ Contains c.args.found.now.items p) (sym c.in_ok-reserve.ensures.items) (c.in_ok-drop_repetitions.ensures.same p)
