use Rattle.std.proofs.Common.{◌≡◌, length}
use Rattle.c_types.specs.Signatures.{same_params}
use Rattle.c_types.proofs.signatures.have_same_params.Given as goal

-- what is left is the same as the whole is
abbrev pub invariant-loop-xs : goal.invariant-loop-xs
invariant-loop-xs l = same_params l.xs l.ys ≡ same_params l.fn.xs l.fn.ys

abbrev pub decreases-loop-xs : goal.decreases-loop-xs
decreases-loop-xs l = length l.xs
