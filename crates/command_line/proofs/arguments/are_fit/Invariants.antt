use Rattle.std.proofs.Common.{◌≡◌, length, map, string_bytes}
use Rattle.command_line.specs.Arguments as spec
use Rattle.command_line.specs.Jobs.{takes}
use Rattle.command_line.proofs.arguments.are_fit.Given as goal

-- all depends on the words that are left
abbrev pub invariant-loop-words : goal.invariant-loop-words
invariant-loop-words l = spec.are_fit (takes l.command) (spec.arguments (map string_bytes l.fn.words)) ≡ spec.are_fit (takes l.command) (spec.arguments (map string_bytes l.words))

abbrev pub decreases-loop-words : goal.decreases-loop-words
decreases-loop-words l = length l.words
