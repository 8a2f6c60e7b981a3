use Rattle.std.proofs.Common.{rules, arith, ◌≡◌}
use Rattle.std.specs.Prelude.{nat_lt}
use Rattle.std.proofs.lemmas.Fn.{always_returns_same}
use Rattle.weaken.proofs.Found.{numbers_partitioned, is_less, is_not_less}
use Rattle.weaken.proofs.locks.number_in.Goals as goal

pub returns-clause-below : goal.returns-clause-below
returns-clause-below c k lt = is_less _ _ ((c.partition_point.ensures.partitioned (λ v. nat_lt v c.args.number) (always_returns_same _ (λ a r. r ≡ nat_lt a.0.now c.args.number) _ (λ a r f h. search rules)) (numbers_partitioned c.args.found.now c.args.number c.requires)).0 k 0 (omega arith) lt)

pub returns-clause-above : goal.returns-clause-above
returns-clause-above c k le lt = is_not_less _ _ ((c.partition_point.ensures.partitioned (λ v. nat_lt v c.args.number) (always_returns_same _ (λ a r. r ≡ nat_lt a.0.now c.args.number) _ (λ a r f h. search rules)) (numbers_partitioned c.args.found.now c.args.number c.requires)).1 k 0 le lt)
