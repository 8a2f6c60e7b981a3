use Rattle.std.proofs.Common.{◌≤◌, ◌-◌, vec_len}
use Rattle.command_line.proofs.adapters.read_front.Given as goal

-- what is read so far isn't more than was asked for
abbrev pub invariant-loop-chunk : goal.invariant-loop-chunk
invariant-loop-chunk g l = vec_len l.bytes ≤ l.most

abbrev pub decreases-loop-chunk : goal.decreases-loop-chunk
decreases-loop-chunk g l = l.most - vec_len l.bytes
