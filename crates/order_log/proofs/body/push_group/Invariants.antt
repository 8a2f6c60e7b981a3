use Rattle.std.proofs.Common.{◌≡◌, ◌+◌, ◌≤◌}
use Rattle.order_log.specs.Text.{Group, stripe_of}
use Rattle.order_log.specs.Line.{IsGroup, clipped_group}
use Rattle.order_log.specs.Recogniser.{AreCounted}
use Rattle.order_log.proofs.Pushing.{Pushed}
use Rattle.order_log.proofs.body.push_group.Given as goal

abbrev pub invariant-loop-left : goal.invariant-loop-left
invariant-loop-left l =
    (stripe_of l.entry.obj + l.left ≤ 255)
    × ((r : Group) → IsGroup r → l.fn.group ≡ clipped_group r → AreCounted l.fn.counts.others l.fn.counts.endings l.fn.found → Pushed l.setup r l.fn.found l.found l.counts.others l.counts.endings l.entry l.left)

abbrev pub decreases-loop-left : goal.decreases-loop-left
decreases-loop-left l = l.left
