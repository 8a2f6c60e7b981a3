use Rattle.std.proofs.Common.{◌≡◌, None, length}
use Rattle.c_operators.specs.Commas as spec
use Rattle.c_operators.specs.Views.{maybe_word, places_of}
use Rattle.c_operators.proofs.commas.joined.Given as goal

-- what is taken off and the rest make the whole
abbrev pub invariant-loop-before : goal.invariant-loop-before
invariant-loop-before l = spec.joined (places_of l.so_far) (maybe_word l.last) l.at ≡ spec.joined (places_of l.fn.so_far) None l.fn.at

abbrev pub decreases-loop-before : goal.decreases-loop-before
decreases-loop-before l = length l.so_far
