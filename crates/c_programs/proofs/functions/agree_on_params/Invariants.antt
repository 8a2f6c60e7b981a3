use Rattle.std.proofs.Common.{◌≡◌, length}
use Rattle.c_programs.specs.Programs.{agree_on_params}
use Rattle.c_programs.proofs.functions.agree_on_params.Given as goal

-- what is left agrees as the whole does
abbrev pub invariant-loop-xs : goal.invariant-loop-xs
invariant-loop-xs l = agree_on_params l.xs l.ys ≡ agree_on_params l.fn.xs l.fn.ys

abbrev pub decreases-loop-xs : goal.decreases-loop-xs
decreases-loop-xs l = length l.xs
