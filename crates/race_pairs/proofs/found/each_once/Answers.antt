use Rattle.std.proofs.Common.{sym, subst, List}
use Rattle.std.specs.Prelude.{◌↔◌}
use Rattle.std.specs.List.{Contains}
use Rattle.facts.specs.declared.pair.Pair.{Pair}
use Rattle.race_pairs.proofs.found.each_once.Goals as goal

pub returns-clause-same : goal.returns-clause-same
returns-clause-same c p = subst (λ (vs : List Pair). Contains vs p ↔ Contains c.args.found.items p) (sym c.from_vec.ensures) (c.in_ok-drop_repetitions.ensures.same p)
