use Rattle.std.proofs.Common.{◌≡◌, ◌+◌, drop}
use Rattle.order_log.proofs.Groups.{more_after}
use Rattle.order_log.proofs.group.sharing.Given as goal

abbrev pub invariant-loop-entry : goal.invariant-loop-entry
invariant-loop-entry l = (l.more ≡ l.entry-index) × (more_after l.version l.first l.rest ≡ l.entry-index + more_after l.version l.before (drop l.entry-index l.rest))
