use Rattle.std.proofs.Common.{◌≡◌, drop}
use Rattle.facts.specs.Locks as spec
use Rattle.facts.proofs.relative.is_clear.Given as goal

abbrev pub invariant-loop-path_gone : goal.invariant-loop-path_gone
invariant-loop-path_gone l = spec.is_clear l.gone l.path ≡ spec.is_clear (drop l.path_gone-index l.gone) l.path
