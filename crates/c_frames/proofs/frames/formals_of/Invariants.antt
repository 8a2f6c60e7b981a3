use Rattle.std.proofs.Common.{◌≡◌, ◌++◌, drop, map}
use Rattle.c_tree.specs.View as tree
use Rattle.c_frames.specs.Frames.{formal_of}
use Rattle.c_frames.proofs.frames.formals_of.Given as goal

-- what is pushed and the rest make the whole
abbrev pub invariant-loop-param : goal.invariant-loop-param
invariant-loop-param l = l.formals ++ map formal_of (map tree.formal_of (drop l.param-index l.params)) ≡ map formal_of (map tree.formal_of l.fn.params)
