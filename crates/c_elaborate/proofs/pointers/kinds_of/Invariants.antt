use Rattle.std.proofs.Common.{◌≡◌, ◌++◌, drop, map}
use Rattle.c_elaborate.specs.Pointers.{is_pointer_kind}
use Rattle.c_elaborate.proofs.pointers.kinds_of.Given as goal

-- those so far and the rest make the whole
abbrev pub invariant-loop-wanted : goal.invariant-loop-wanted
invariant-loop-wanted l = l.kinds ++ map is_pointer_kind (drop l.wanted-index l.params) ≡ map is_pointer_kind l.fn.params
