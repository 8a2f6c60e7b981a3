use Rattle.std.proofs.Common.{◌≡◌, length}
use Rattle.flow_code.specs.Addresses as spec
use Rattle.flow_code.proofs.addresses.words_fit.Given as goal

abbrev pub invariant-loop-kinds_left : goal.invariant-loop-kinds_left
invariant-loop-kinds_left l = spec.words_fit l.code l.kinds_left l.words_left ≡ spec.words_fit l.code l.kinds l.words

abbrev pub decreases-loop-kinds_left : goal.decreases-loop-kinds_left
decreases-loop-kinds_left l = length l.kinds_left
