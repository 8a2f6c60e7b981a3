use Rattle.std.proofs.Common.{rules, arith, ◌≡◌}
use Rattle.std.proofs.lemmas.Fn.{always_returns_same}
use Rattle.facts.specs.Pairs.{access_less}
use Rattle.grain_choice.proofs.Ascents.{partitioned}
use Rattle.grain_choice.proofs.accesses.place_of.Goals as goal

pub returns-clause-below : goal.returns-clause-below
returns-clause-below c k d lt = (c.partition_point.ensures.partitioned (λ v. access_less v c.args.access.now) (always_returns_same _ (λ a r. r ≡ access_less a.0.now c.args.access.now) _ (λ a r f h. search rules)) (partitioned c.args.listed.now c.args.access.now c.requires)).0 k d (omega arith) lt

pub returns-clause-above : goal.returns-clause-above
returns-clause-above c k d le lt = (c.partition_point.ensures.partitioned (λ v. access_less v c.args.access.now) (always_returns_same _ (λ a r. r ≡ access_less a.0.now c.args.access.now) _ (λ a r f h. search rules)) (partitioned c.args.listed.now c.args.access.now c.requires)).1 k d le lt
