use Rattle.std.proofs.Common.{◌≡◌, true, sym, subst}
use Rattle.facts.specs.PointsTo.{are_ascending}
use Rattle.weaken.proofs.Nexts.{ok_map}
use Rattle.weaken.proofs.Chosen.{places_ascend}
use Rattle.weaken.proofs.weakening.locked_places.Goals as goal

pub returns-clause-ascending : goal.returns-clause-ascending
returns-clause-ascending c = ok_map c.places_in.result _ _ (λ v e. subst (λ z. are_ascending z ≡ true) (sym e) (places_ascend c.args.pairs.now c.requires)) c.places_in.ensures
