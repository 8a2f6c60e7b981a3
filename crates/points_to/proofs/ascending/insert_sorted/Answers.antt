use Rattle.std.proofs.Common.{subst, List, ℕ}
use Rattle.std.specs.List.{Contains}
use Rattle.points_to.proofs.Lists.{ascends_after, insert_from}
use Rattle.points_to.proofs.ascending.insert_sorted.Goals as goal

pub returns-in_ok-insert-in-Err-clause-ascends : goal.returns-in_ok-insert-in-Err-clause-ascends
returns-in_ok-insert-in-Err-clause-ascends c = ascends_after c.args.row.now.items c.deref.result.now c.insert.new.self.items c.in-Err.i c.args.p c.deref.ensures.value c.in_ok-insert-in-Err.ensures.items c.requires c.in-Err.ensures.position c.in-Err.ensures.bound

pub returns-in_ok-insert-in-Err-clause-from : goal.returns-in_ok-insert-in-Err-clause-from
returns-in_ok-insert-in-Err-clause-from c q h = insert_from c.args.row.now.items c.in-Err.i c.args.p q (subst (λ (z : List ℕ). Contains z q) c.in_ok-insert-in-Err.ensures.items h)
