use Rattle.std.proofs.Common.{◌≡◌, length, map}
use Rattle.order_log.specs.Line as line
use Rattle.order_log.proofs.operation.op_among.Given as goal

abbrev pub invariant-loop-table : goal.invariant-loop-table
invariant-loop-table l = line.op_among (map (λ row. (row.0.now, row.1)) l.table) l.text ≡ line.op_among (map (λ row. (row.0.now, row.1)) l.initial.table) l.text

abbrev pub decreases-loop-table : goal.decreases-loop-table
decreases-loop-table l = length l.table
