use Rattle.std.proofs.Common.{◌≡◌, ◌++◌, drop}
use Rattle.c_elaborate.specs.Pointers.{targets_from}
use Rattle.c_elaborate.proofs.pointers.targets.Given as goal

-- those so far and the rest make the whole
abbrev pub invariant-loop-of : goal.invariant-loop-of
invariant-loop-of l = l.targets ++ targets_from l.fn.number l.function (drop l.of-index l.types) ≡ targets_from l.fn.number 0 l.fn.types
