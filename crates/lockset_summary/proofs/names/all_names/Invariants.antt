use Rattle.std.proofs.Common.{◌≡◌, map, take}
use Rattle.facts.specs.Paths.{argument_namings}
use Rattle.lockset_summary.proofs.names.all_names.Given as goal

abbrev pub invariant-loop-function : goal.invariant-loop-function
invariant-loop-function l = l.names ≡ map argument_namings (take l.function-index l.code.functions)
