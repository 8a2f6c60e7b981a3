use Rattle.std.proofs.Common.{◌≡◌, map, take}
use Rattle.facts.specs.Paths.{actual_of}
use Rattle.lockset_flow.proofs.calls.actuals.Given as goal

abbrev pub invariant-loop-naming : goal.invariant-loop-naming
invariant-loop-naming l = l.actuals ≡ map actual_of (take l.naming-index l.names)
