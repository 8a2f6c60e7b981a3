use Rattle.std.proofs.Common.{◌≡◌, ◌++◌, map}
use Rattle.workload.specs.Program.{call_line, numbers_below, text_of}
use Rattle.workload.proofs.program.push_calls.Given as goal

abbrev pub invariant-loop-number : goal.invariant-loop-number
invariant-loop-number l = l.out ≡ l.fn.out ++ text_of (map call_line (numbers_below l.number))
