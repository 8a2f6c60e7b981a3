use Rattle.std.proofs.Common.{◌≡◌, ◌++◌, map, take}
use Rattle.order_log.specs.Text.{text_of}
use Rattle.snapshots.specs.Text.{stripe_line}
use Rattle.snapshots.proofs.write.push_stripe_lines.Given as goal

abbrev pub invariant-loop-stripe : goal.invariant-loop-stripe
invariant-loop-stripe l = l.out ≡ l.fn.out ++ text_of (map stripe_line (take l.stripe-index l.stripes))
