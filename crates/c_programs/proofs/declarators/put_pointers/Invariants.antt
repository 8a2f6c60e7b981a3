use Rattle.std.proofs.Common.{◌≡◌, ◌++◌, replicate}
use Rattle.c_types.specs.declared.types.Layer.TheVariants as layer
use Rattle.c_programs.proofs.declarators.put_pointers.Given as goal

-- what is put and the rest make the whole
abbrev pub invariant-loop-left : goal.invariant-loop-left
invariant-loop-left l = l.layers ++ replicate l.left layer.Pointer ≡ l.fn.layers ++ replicate l.fn.stars layer.Pointer

abbrev pub decreases-loop-left : goal.decreases-loop-left
decreases-loop-left l = l.left
