use Rattle.std.proofs.Common.{rules, arith, ◌≡◌}
use Rattle.std.proofs.lemmas.Fn.{always_returns_same}
use Rattle.facts.specs.PointsTo.{is_before}
use Rattle.weaken.proofs.Found.{places_partitioned}
use Rattle.weaken.proofs.locks.place_in.Goals as goal

pub returns-clause-below : goal.returns-clause-below
returns-clause-below c k d lt = (c.partition_point.ensures.partitioned (λ v. is_before v c.args.place) (always_returns_same _ (λ a r. r ≡ is_before a.0.now c.args.place) _ (λ a r f h. search rules)) (places_partitioned c.args.locked.now c.args.place c.requires)).0 k d (omega arith) lt

pub returns-clause-above : goal.returns-clause-above
returns-clause-above c k d le lt = (c.partition_point.ensures.partitioned (λ v. is_before v c.args.place) (always_returns_same _ (λ a r. r ≡ is_before a.0.now c.args.place) _ (λ a r f h. search rules)) (places_partitioned c.args.locked.now c.args.place c.requires)).1 k d le lt
