use Rattle.std.proofs.Common.{◌≡◌, ◌++◌, drop}
use Rattle.std.specs.List.{filter}
use Rattle.facts.specs.Locks.{held_less, held_same, has_held}
use Rattle.facts.proofs.TotalOrders.{orders_held}
use Rattle.lockset_flow.proofs.Walking.{Walked}
use Rattle.lockset_flow.proofs.meeting.kept_in_order.Given as goal

abbrev pub invariant-loop-held : goal.invariant-loop-held
invariant-loop-held l = record {
  so_far : l.kept ++ filter (λ h. has_held h l.others) (drop l.held-index l.plus) ≡ filter (λ h. has_held h l.others) l.plus;
  walked : Walked held_less held_same orders_held (drop l.held-index l.plus) l.rest l.others;
}
