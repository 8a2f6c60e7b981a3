use Rattle.std.proofs.Common.{◌≡◌, ◌≤◌, ◌++◌, length, map}
use Rattle.order_log.specs.Text.{group_line, groups_of, text_of}
use Rattle.order_log.proofs.write.push_entry_lines.Given as goal

abbrev pub invariant-loop-rest : goal.invariant-loop-rest
invariant-loop-rest l =
    (l.out ++ text_of (map group_line (groups_of l.version l.rest)) ≡ l.fn.out ++ text_of (map group_line (groups_of l.fn.version l.fn.entries))) × (length l.rest ≤ 16777312)

abbrev pub decreases-loop-rest : goal.decreases-loop-rest
decreases-loop-rest l = length l.rest
