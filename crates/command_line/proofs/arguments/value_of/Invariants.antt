use Rattle.std.proofs.Common.{◌≡◌, length, map, string_bytes}
use Rattle.command_line.specs.Arguments as spec
use Rattle.command_line.proofs.arguments.value_of.Given as goal

-- the words that are passed don't give the option
abbrev pub invariant-loop-words : goal.invariant-loop-words
invariant-loop-words l = spec.value_of l.name (spec.arguments (map string_bytes l.fn.words)) ≡ spec.value_of l.name (spec.arguments (map string_bytes l.words))

abbrev pub decreases-loop-words : goal.decreases-loop-words
decreases-loop-words l = length l.words
