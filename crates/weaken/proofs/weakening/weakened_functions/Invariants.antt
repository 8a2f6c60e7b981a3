use Rattle.std.proofs.Common.{◌≡◌, ◌++◌, drop}
use Rattle.weak_code.specs.Weakened as spec
use Rattle.weaken.proofs.weakening.weakened_functions.Given as goal

abbrev pub invariant-loop-number : goal.invariant-loop-number
invariant-loop-number l = l.functions ++ spec.weakened_functions l.code l.points l.locked l.ranges l.rows l.number (drop l.number l.code.functions) ≡ spec.weakened_functions l.code l.points l.locked l.ranges l.rows 0 l.code.functions
