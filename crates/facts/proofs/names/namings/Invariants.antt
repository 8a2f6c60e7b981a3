use Rattle.std.proofs.Common.{◌≡◌, map, take}
use Rattle.facts.specs.Carried.{known_in}
use Rattle.facts.specs.Paths as spec
use Rattle.facts.proofs.names.namings.Given as goal

abbrev pub invariant-loop-register : goal.invariant-loop-register
invariant-loop-register l = l.namings ≡ map (λ r. spec.naming_of (known_in l.held l.fixed r)) (take l.register-index l.registers)
