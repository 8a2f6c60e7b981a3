use Rattle.std.proofs.Common.{◌≡◌, ◌++◌, true, replicate}
use Rattle.flow_lower.proofs.function.push_pointers.Given as goal

-- what is pushed and the rest make the whole
abbrev pub invariant-loop-left : goal.invariant-loop-left
invariant-loop-left l = l.out ++ replicate l.left true ≡ l.fn.out ++ replicate l.fn.many true

abbrev pub decreases-loop-left : goal.decreases-loop-left
decreases-loop-left l = l.left
