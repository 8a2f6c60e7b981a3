use Rattle.std.proofs.Common.{◌≡◌, map}
use Rattle.weaken.proofs.weakening.regions_of.Given as goal

abbrev pub invariant-loop-stretch : goal.invariant-loop-stretch
invariant-loop-stretch l = l.regions ≡ map (λ s. s.region) l.yielded
