use Rattle.std.proofs.Common.{◌≡◌, ◌++◌, drop, map}
use Rattle.core_tree.specs.View.{pointer_of}
use Rattle.c_elaborate.specs.Pointers as spec
use Rattle.c_elaborate.proofs.pointers.pointer_types.Given as goal

-- those so far and the rest make the whole
abbrev pub invariant-loop-number : goal.invariant-loop-number
invariant-loop-number l = map pointer_of l.made ++ spec.pointer_types l.types l.number (drop l.number l.pointers) ≡ spec.pointer_types l.fn.types 0 l.fn.pointers
