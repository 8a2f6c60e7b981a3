use Rattle.std.proofs.Common.{◌≡◌, ◌+◌, length, map, string_bytes}
use Rattle.command_line.specs.Arguments as spec
use Rattle.command_line.proofs.arguments.has_positional.Given as goal

-- as many positional words are passed as the number has gone down
abbrev pub invariant-loop-rest : goal.invariant-loop-rest
invariant-loop-rest l = length (spec.positional (spec.arguments (map string_bytes l.fn.words))) + l.number ≡ length (spec.positional (spec.arguments (map string_bytes l.words))) + l.fn.number

abbrev pub decreases-loop-rest : goal.decreases-loop-rest
decreases-loop-rest l = l.number
